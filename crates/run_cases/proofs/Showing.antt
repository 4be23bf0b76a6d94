-- What is said at a place of a run, and of a line: by the run's verdict, by whether the place is reached, and by the written text of the
-- occurrence there.
use Rattle.std.specs.Prelude.{None, Option, Some}
use mathlib.Core.Path.{◌≡◌, ap, sym, subst, ◌∙◌}
use mathlib.Core.Bool.{Bool, true, false}
use mathlib.Core.List.{List, [], ◌∷◌}
use Prim.Native.Nat.{ℕ, ◌+◌, ◌≤◌, ◌<◌}
use native.Mathlib.Omega.{arith}
use lib.Dec.{ltb}
use lib.ListN.{length}
use borrow.Author.Tests.{le-ltb, ltb-false}
use Rattle.basis.specs.Answer.{Answer, gives, refuses_for, and_then}
use Rattle.value.specs.Reasons.{reason_of}
use Rattle.value.specs.Kinds.{ok_value}
use Rattle.value.specs.Values.{ok_date_time}
use Rattle.value.specs.declared.DateTime.{DateTime}
use Rattle.value.specs.declared.Kind.TheVariants as KV
use Rattle.value.specs.declared.Offset.{Offset}
use Rattle.value.specs.declared.Refusal.{Refusal}
use Rattle.value.specs.declared.Value.TheVariants as VV
use Rattle.value_instants.specs.Ticks.{at_local, in_years, placed_at}
use Rattle.value.specs.Carried.{ticks_of}
use Rattle.value.proofs.RowLaws.{date_time_ok}
use Rattle.value_instants.proofs.Locals.{placed_there, placed_ok}
use Rattle.value_instants.proofs.Years.{later_in_years}
use Rattle.timetable.specs.Rows.{row_of, row_with, with_second}
use Rattle.timetable.proofs.Rows.{with_none, with_some}
use Rattle.text.specs.Writing.{text_of}
use Rattle.text.proofs.NotEmpty.{written_some}
use Rattle.run_times.specs.Occurrences.{count_of, local_at_place, run_checked}
use Rattle.run_times.specs.Laws.{GoodTimes}
use Rattle.run_times.specs.Carried.{span_times}
use Rattle.run_times.specs.declared.Run.{Run}
use Rattle.run_cases.specs.Cases.{Case, row_case, refusal_case, case_at}
use Rattle.run_cases.specs.StandsFor.{is_run, fields_read, times_in, occurrence_at, occurrences, or_miss, run_cases, stands_for}
use Rattle.run_cases.specs.Carried.{Shows, Alone, spans_read, GoodSpans, ShowsOccurrence, ShowsRun}
use Rattle.run_cases.specs.declared.CaseRead.TheVariants as SV
use Rattle.run_cases.specs.declared.CaseAtPlace.{CaseAtPlace}
use Rattle.run_cases.specs.declared.RunSpans.{RunSpans}
use Rattle.run_cases.proofs.Places.{refusal_anywhere, row_first, row_further, none_after, alone_shown}
use Rattle.run_cases.proofs.Occurring.{run_there, run_further, run_more}
use Rattle.run_cases.proofs.Fields.{times_of_lem, read_as_lem, read_refused}
use Rattle.run_cases.proofs.Lines.{is_plain, is_run_line, is_bad, run_of_read, run_of_refused}

-- ---- the record of an occurrence and its text

pub placed_is : (t : ℕ) (z : Option Offset) (d : DateTime) → Some d ≡ placed_at t z → in_years t ≡ true → d ≡ at_local t z
placed_is t z d e y = let q : Some d ≡ Some (at_local t z) = e ∙ placed_there t z y in cc

pub placed_not : {A : Type 0} (t : ℕ) (z : Option Offset) → None ≡ placed_at t z → in_years t ≡ true → A
placed_not t z e y =
    let q : None ≡ Some (at_local t z) = e ∙ placed_there t z y in
    absurd (let n : ◌≡◌ {A = ℕ} 0 1 = cc in omega arith)

module _ (run : Run) (own : Option Offset) (p : ℕ) (g : GoodSpans run own) (t : GoodTimes (span_times run)) (h : p < count_of (span_times run)) where
  pub in_years_lem : in_years (local_at_place (span_times run) p) ≡ true
  in_years_lem = later_in_years (ticks_of run.local) (local_at_place (span_times run) p) (omega arith) g.years (t.within p h)

  record_good : ok_date_time (at_local (local_at_place (span_times run) p) own) ≡ true
  record_good = placed_ok (local_at_place (span_times run) p) own in_years_lem g.zoned

  -- the row with the written text of the occurrence
  pub there_shown : (d : DateTime) (made : List ℕ) (more : Bool) → d ≡ at_local (local_at_place (span_times run) p) own
      → made ≡ text_of (VV.Moment KV.DateTime d) → more ≡ ltb (p + 1) (count_of (span_times run))
      → ShowsOccurrence (record { read = SV.Row; made = made; more = more }) run own p
  unfolding ok_value
  there_shown d made more q w m zone line f e =
      let ts : span_times run ≡ times_in zone f = times_of_lem zone f (record { run = run; zone = own }) e in
      let n : count_of (span_times run) ≡ count_of (times_in zone f) = ap count_of ts in
      let z : own ≡ f.first.zone = ap (λ (x : RunSpans). x.zone) e in
      let o : d ≡ occurrence_at f p = q ∙ (λ i. at_local (local_at_place (ts i) p) (z i)) in
      let long : 0 < length (text_of (VV.Moment KV.DateTime d)) = written_some (VV.Moment KV.DateTime d) (date_time_ok d (ap ok_date_time q ∙ record_good)) in
      record {
        what =
            ap (λ (s : List ℕ). row_case (row_with line s)) w
            ∙ ap row_case (with_some line (text_of (VV.Moment KV.DateTime d)) long)
            ∙ ap (λ (x : DateTime). row_case (with_second (text_of (VV.Moment KV.DateTime x)) (row_of line))) o
            ∙ sym (run_there line f (count_of (times_in zone f)) p (omega arith));
        more = m ∙ ap (ltb (p + 1)) n ∙ sym (run_more line f (count_of (times_in zone f)) p);
      }

-- ---- a run at a place

module _ (r : CaseAtPlace) (run : Run) (own : Option Offset) (p : ℕ) where
  -- no occurrence there
  pub gone_shown : Alone r SV.Miss → ltb p (count_of (span_times run)) ≡ false → ShowsOccurrence r run own p
  gone_shown a h zone line f e =
      let ts : span_times run ≡ times_in zone f = times_of_lem zone f (record { run = run; zone = own }) e in
      let n : count_of (span_times run) ≡ count_of (times_in zone f) = ap count_of ts in
      let g : count_of (times_in zone f) ≤ p = omega (arith, ltb-false p (count_of (span_times run)) h) in
      alone_shown r SV.Miss line (or_miss (occurrences line f 0 (count_of (times_in zone f)))) p a
      (sym (run_further line f (count_of (times_in zone f)) p g))
      (run_more line f (count_of (times_in zone f)) p ∙ le-ltb (p + 1) (count_of (times_in zone f)) (omega arith))

  -- a bad run is its refusal
  pub refused_shown : (n : Refusal) → Alone r (SV.Refused n) → refuses_for (reason_of n) ≡ run_checked (span_times run) → ShowsRun r run own p
  unfolding and_then
  refused_shown n a h zone line f e =
      let ts : span_times run ≡ times_in zone f = times_of_lem zone f (record { run = run; zone = own }) e in
      let q : refuses_for (reason_of n) ≡ run_checked (times_in zone f) = h ∙ ap run_checked ts in
      subst (λ (x : Answer (Unit {0})). Shows r line (run_cases zone line (and_then x (λ good. gives f))) p) q
      (alone_shown r (SV.Refused n) line (refusal_case (reason_of n) ∷ []) p a (sym (refusal_anywhere (reason_of n) p)) (none_after (refusal_case (reason_of n)) p))

  pub good_shown : gives tt ≡ run_checked (span_times run) → ShowsOccurrence r run own p → ShowsRun r run own p
  unfolding and_then
  good_shown h o zone line f e =
      let ts : span_times run ≡ times_in zone f = times_of_lem zone f (record { run = run; zone = own }) e in
      let q : gives tt ≡ run_checked (times_in zone f) = h ∙ ap run_checked ts in
      subst (λ (x : Answer (Unit {0})). Shows r line (run_cases zone line (and_then x (λ good. gives f))) p) q (o zone line f e)

-- ---- a line at a place

module _ (r : CaseAtPlace) (zone : Offset) (line : List ℕ) (p : ℕ) where
  as_cases : (cs : List Case) → stands_for zone line ≡ cs → Shows r line cs p → Shows r line (stands_for zone line) p
  as_cases cs e s = subst (λ (x : List Case). Shows r line x p) (sym e) s

  pub plain_shown : is_run line ≡ false → Alone r SV.Row → p ≡ 0 → Shows r line (stands_for zone line) p
  plain_shown e a z =
      as_cases (row_case (row_of line) ∷ []) (is_plain zone line e)
      (alone_shown r SV.Row line (row_case (row_of line) ∷ []) p a
      (ap row_case (with_none line [] (omega arith)) ∙ sym (ap (case_at (row_case (row_of line) ∷ [])) z ∙ row_first (row_of line)))
      (none_after (row_case (row_of line)) p))

  pub plain_further_shown : is_run line ≡ false → Alone r SV.Miss → (p ≡ 0 → ⊥) → Shows r line (stands_for zone line) p
  plain_further_shown e a z =
      as_cases (row_case (row_of line) ∷ []) (is_plain zone line e)
      (alone_shown r SV.Miss line (row_case (row_of line) ∷ []) p a (sym (row_further (row_of line) p (omega (arith, z))))
      (none_after (row_case (row_of line)) p))

  pub unread_shown : (n : Refusal) → is_run line ≡ true → Alone r (SV.Refused n) → refuses_for (reason_of n) ≡ spans_read zone (fields_read line)
      → Shows r line (stands_for zone line) p
  unread_shown n e a h =
      as_cases (refusal_case (reason_of n) ∷ []) (is_bad zone line (reason_of n) e (run_of_refused zone line (reason_of n) (read_refused zone line (reason_of n) h)))
      (alone_shown r (SV.Refused n) line (refusal_case (reason_of n) ∷ []) p a (sym (refusal_anywhere (reason_of n) p)) (none_after (refusal_case (reason_of n)) p))

  pub run_shown : (x : RunSpans) → is_run line ≡ true → gives x ≡ spans_read zone (fields_read line) → ShowsRun r x.run x.zone p
      → Shows r line (stands_for zone line) p
  run_shown x e h s =
      let a = read_as_lem zone line x h in
      as_cases (run_cases zone line (and_then (run_checked (times_in zone a.fields)) (λ good. gives a.fields)))
      (is_run_line zone line e ∙ ap (run_cases zone line) (run_of_read zone line a.fields a.read))
      (s zone line a.fields a.spans)
