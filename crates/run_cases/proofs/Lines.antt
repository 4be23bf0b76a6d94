-- What a line stands for: a plain one, a bad run, and a good one; never nothing, and at most 1,440 cases.
use mathlib.Core.Path.{◌≡◌, refl, ap, sym, subst, ◌∙◌}
use mathlib.Core.Bool.{Bool, true, false}
use mathlib.Core.List.{List, [], ◌∷◌}
use Prim.Native.Nat.{ℕ, ◌≤◌}
use native.Mathlib.Omega.{arith}
use lib.ListN.{length}
use Rattle.basis.specs.Answer.{Reason, Answer, gives, refuses_for, and_then}
use Rattle.value.specs.declared.Offset.{Offset}
use Rattle.timetable.specs.Rows.{row_of}
use Rattle.run_times.specs.Occurrences.{most_occurrences, count_of, run_checked}
use Rattle.run_times.specs.Laws.{GoodTimes}
use Rattle.run_times.proofs.Counts.{count_none, one_there}
use Rattle.run_times.proofs.Verdicts.{good_exactly}
use Rattle.run_cases.specs.Cases.{Case, row_case, refusal_case, case_at}
use Rattle.run_cases.specs.StandsFor.{is_run, RunFields, fields_read, times_in, run_of, or_miss, occurrences, run_cases, stands_for}
use Rattle.run_cases.specs.Laws.{StandsForSome, StandsForFew, PlainLine, BadRun, GoodRuns}
use Rattle.basis.proofs.Answers.{then_gives}
use Rattle.run_cases.proofs.Places.{refusal_anywhere, row_further}
use Rattle.run_cases.proofs.Occurring.{run_empty, run_counted, run_there, run_further, run_some, run_few}

module _ (zone : Offset) (line : List ℕ) where
  pub is_plain : is_run line ≡ false → stands_for zone line ≡ row_case (row_of line) ∷ []
  unfolding stands_for
  is_plain e = rw e

  pub is_run_line : is_run line ≡ true → stands_for zone line ≡ run_cases zone line (run_of zone line)
  unfolding stands_for
  is_run_line e = rw e

  pub is_bad : (why : Reason) → is_run line ≡ true → run_of zone line ≡ refuses_for why → stands_for zone line ≡ refusal_case why ∷ []
  is_bad why e r = is_run_line e ∙ ap (run_cases zone line) r

  pub is_good : (r : RunFields) → is_run line ≡ true → run_of zone line ≡ gives r
      → stands_for zone line ≡ or_miss (occurrences line r 0 (count_of (times_in zone r)))
  is_good r e g = is_run_line e ∙ ap (run_cases zone line) g

  -- the run of fields that were read
  pub run_of_read : (f : RunFields) → fields_read line ≡ gives f
      → run_of zone line ≡ and_then (run_checked (times_in zone f)) (λ good. gives f)
  unfolding run_of and_then
  run_of_read f e = rw e

  pub run_of_refused : (why : Reason) → fields_read line ≡ refuses_for why → run_of zone line ≡ refuses_for why
  unfolding run_of and_then
  run_of_refused why e = rw e

  -- a good run is one that runs in ticks are good as
  pub good_times : (r : RunFields) → run_of zone line ≡ gives r → (fields_read line ≡ gives r) × GoodTimes (times_in zone r)
  unfolding run_of
  good_times r e =
      let a = then_gives (fields_read line) _ r e in
      let b = then_gives (run_checked (times_in zone a.0)) _ r a.2 in
      let q : a.0 ≡ r = cc in
      subst (λ (f : RunFields). (fields_read line ≡ gives f) × GoodTimes (times_in zone f)) q
      (a.1, (good_exactly (times_in zone a.0)).only b.1)

pub plain_line : PlainLine
plain_line zone line e =
    let q = is_plain zone line e in
    record { one = q; further = λ p h. ap (λ (cs : List Case). case_at cs p) q ∙ row_further (row_of line) p h }

pub bad_run : BadRun
bad_run zone line why e r =
    let q = is_bad zone line why e r in
    record { one = q; anywhere = λ p. ap (λ (cs : List Case). case_at cs p) q ∙ refusal_anywhere why p }

pub good_run : GoodRuns
good_run zone line r e g =
    let q = is_good zone line r e g in
    let t = times_in zone r in
    record {
      empty = λ h. q ∙ run_empty line r (count_of t) (count_none t h);
      counted = λ h. ap (λ (cs : List Case). length cs) q ∙ run_counted line r (count_of t) (one_there t h);
      there = λ p h. ap (λ (cs : List Case). case_at cs p) q ∙ run_there line r (count_of t) p h;
      further = λ p h. ap (λ (cs : List Case). case_at cs p) q ∙ run_further line r (count_of t) p h;
    }

-- ---- how many

of_any : (P : List Case → Type 0) (zone : Offset) (line : List ℕ) → P (row_case (row_of line) ∷ []) → ((why : Reason) → P (refusal_case why ∷ []))
    → ((r : RunFields) → count_of (times_in zone r) ≤ most_occurrences → P (or_miss (occurrences line r 0 (count_of (times_in zone r)))))
    → P (stands_for zone line)
of_any P zone line a b c = by_word (is_run line) refl
  where
    by_run : (x : Answer RunFields) → is_run line ≡ true → run_of zone line ≡ x → P (stands_for zone line)
    by_run (gives r) e h = subst P (sym (is_good zone line r e h)) (c r (good_times zone line r h).1.few)
    by_run (refuses_for why) e h = subst P (sym (is_bad zone line why e h)) (b why)

    by_word : (x : Bool) → is_run line ≡ x → P (stands_for zone line)
    by_word true e = by_run (run_of zone line) e refl
    by_word false e = subst P (sym (is_plain zone line e)) a

pub stands_for_some : StandsForSome
stands_for_some zone line =
    of_any (λ (cs : List Case). 1 ≤ length cs) zone line (omega arith) (λ why. omega arith) (λ r h. run_some line r (count_of (times_in zone r)))

pub stands_for_few : StandsForFew
stands_for_few zone line =
    of_any (λ (cs : List Case). length cs ≤ most_occurrences) zone line (omega arith) (λ why. omega arith)
    (λ r h. run_few line r (count_of (times_in zone r)) h)
