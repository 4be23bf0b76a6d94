-- What reads is valid: a value that is read is of its kind and within the bounds. The checks of the calendar, the clock
-- and the zone say so of the parts; the parts that the kind has not are still the template's.
use Rattle.std.specs.Prelude.{None, Option, Some}
use mathlib.Core.Path.{◌≡◌, refl, sym, ◌∙◌}
use mathlib.Core.Bool.{Bool, true, false}
use mathlib.Core.List.{List}
use Prim.Native.Nat.{ℕ, zero, suc, ◌+◌, ◌≤◌, ◌<◌}
use Prim.Native.Char.{code}
use native.Mathlib.Omega.{arith}
use lib.Dec.{eqb, leb}
use borrow.Author.Tests.{leb-true, leb-false, le-leb, eqb-true, eqb-false}
use Rattle.basis.specs.Choice.{pick, every}
use Rattle.basis.specs.Answer.{Answer, gives, refuses}
use Rattle.basis.proofs.Tests.{never, both_left, both_right, both_true}
use Rattle.calendar.specs.Calendar.{day_of, date_of, dated_of, total, year_days}
use Rattle.calendar.specs.declared.Date.{Date}
use Rattle.calendar.proofs.Years.{years_grow, year_starts, year_ends}
use Rattle.calendar.proofs.Dates.{date_good, day_date}
use Rattle.calendar.proofs.Answers.{OnTime, on_says}
use Rattle.value.specs.Bounds.{min_year, max_year, max_zone, second_ticks}
use Rattle.value.specs.Carried.{max_clock}
use Rattle.value.specs.Clocks.{with_time, at_clock, at_clock_of}
use Rattle.value.specs.Values.{ok_date, ok_offset, ok_zone, ok_date_time}
use Rattle.value.specs.Rows.{is_moment, has, has_part, layout_of, template_of, kept}
use Rattle.value.specs.Kinds.{ok_value, kind_of}
use Rattle.value.specs.declared.Offset.TheVariants.{East, West}
use Rattle.value.specs.declared.DateTime.{DateTime}
use Rattle.value.specs.declared.Kind.{Kind}
use Rattle.value.specs.declared.Value.{Value}
use Rattle.value.specs.declared.Value.TheVariants as VV
use Rattle.value.proofs.Good.{GoodDay, good_day, day_ok, record_ok}
use Rattle.value.proofs.ClockLaws.{time_part_at}
use Rattle.value.proofs.KindParts.{kept_of_kind, moment_ok}
use Rattle.value.proofs.RowTests.{rows_pass}
use Rattle.value.proofs.RowLaws.{row_midnight}
use Rattle.text_scan.specs.declared.FoundDate.{FoundDate}
use Rattle.text_scan.specs.declared.FoundClock.{FoundClock}
use Rattle.text_scan.specs.declared.FoundZone.{FoundZone}
use Rattle.text_checks.specs.Reading.{start_of_day, next_day, day_end, good_clock, clock_ticks, clocked, offset_minutes, ok_parts, zone_is, day_found, on_calendar}
use Rattle.text_checks.proofs.Ways.{clock_within, within_day}
use Rattle.value.proofs.ClockLetters.{with_month, with_day}
use Rattle.value.specs.declared.Offset.{Offset}

-- a value within the bounds, of a kind
pub record Valid (k : Kind) (v : Value) : Type 0 where
  pub ok : ok_value v ≡ true
  pub kind : kind_of v ≡ k

-- an answer that gives nothing but valid values of a kind
abbrev pub Fine : Kind → Answer Value → Type 0
Fine k a = (v : Value) → a ≡ gives v → Valid k v

pub fine_refusal : (k : Kind) (n : ℕ) → Fine k (refuses n)
fine_refusal k n v e = absurd (bad e)
  where
    bad : refuses n ≡ gives v → ⊥
    bad q =
        let z : ◌≡◌ {A = ℕ} 0 1 = cc in
        omega arith

pub fine_pick : (k : Kind) (b : Bool) (x y : Answer Value) → (b ≡ true → Fine k x) → (b ≡ false → Fine k y) → Fine k (pick b x y)
fine_pick k true x y f g = f refl
fine_pick k false x y f g = g refl

-- what a row has no part for is its template's; a clock that is not read is at the day's start
pub record Suits (ps : List ℕ) (t : DateTime) (d : Date) (u : ℕ) : Type 0 where
  pub year : has ps (code "Y") ≡ false → d.year ≡ t.year
  pub month : has ps (code "M") ≡ false → d.month ≡ t.month
  pub day : has ps (code "D") ≡ false → d.day ≡ t.day
  pub clock : has ps (code "h") ≡ false → u ≡ 0

own : {A : Type 0} (b : Bool) (x y : A) → (b ≡ false → x ≡ y) → pick b x y ≡ x
own true x y f = refl
own false x y f = sym (f refl)

fine_value : (k : Kind) (d : Date) (u : ℕ) (z : Option Offset) → is_moment k ≡ true → ok_date_time (at_clock d u z) ≡ true → Suits (layout_of k) (template_of k) d u
    → Fine k (gives (VV.Moment k (at_clock d u z)))
fine_value k d u z m o e v q =
    let w : v ≡ VV.Moment k (at_clock d u z) = cc in
    rw w (record { ok = moment_ok k (at_clock d u z) m o (kept_of_kind k (at_clock d u z) whole); kind = refl })
  where
    clock : (b : Bool) → (b ≡ false → u ≡ 0) → at_clock_of d (pick b (at_clock d u z) (template_of k)) z ≡ at_clock d u z
    clock true f = refl
    clock false f =
        let n = row_midnight (layout_of k) (template_of k) (rows_pass k) in
        (λ i. with_time d (n.0 i) (n.1 i) z) ∙ (λ i. at_clock d (sym (f refl) i) z)

    whole : kept k (at_clock d u z) ≡ at_clock d u z
    whole =
        (λ i. at_clock_of
        (record {
          year = own (has_part k (code "Y")) d.year (template_of k).year e.year i;
          month = own (has_part k (code "M")) d.month (template_of k).month e.month i;
          day = own (has_part k (code "D")) d.day (template_of k).day e.day i;
        })
        (pick (has_part k (code "h")) (at_clock d u z) (template_of k))
        z)
        ∙ clock (has_part k (code "h")) e.clock

-- a good date, a time below a day and a good zone are a record within the bounds
record_good : (d : Date) (u : ℕ) (z : Option Offset) → ok_date d.year d.month d.day ≡ true → u ≤ max_clock → ok_zone z ≡ true → ok_date_time (at_clock d u z) ≡ true
record_good d u z e h g = record_ok (at_clock d u z) (record { day = good_day d e; time = time_part_at d u z h; zone = g })

zone_good : (z : FoundZone) → offset_minutes z ≤ max_zone → ok_zone (zone_is z) ≡ true
unfolding zone_is ok_zone ok_offset every
zone_good z h = go (eqb z.sign 0) (eqb z.sign (code "-")) (eqb (offset_minutes z) 0) refl
  where
    n : ℕ
    n = offset_minutes z

    go : (a b c : Bool) → eqb n 0 ≡ c → ok_zone (pick a None (Some (pick b (pick c (East 0) (West n)) (East n)))) ≡ true
    go true b c e = refl
    go false true true e = refl
    go false true false e = both_true _ _ (le-leb 1 n (more n (eqb-false n 0 e))) (both_true _ _ (le-leb n max_zone h) refl)
      where
        more : (n : ℕ) → (n ≡ 0 → ⊥) → 1 ≤ n
        more zero f = absurd (f refl)
        more (suc n) f = omega arith
    go false false c e = le-leb n max_zone h

-- the day after a good day, where its year is not beyond the greatest
after_good : (d e : Date) → ok_date d.year d.month d.day ≡ true → dated_of (day_of d + 1) max_year ≡ Some e → ok_date e.year e.month e.day ≡ true
after_good d e o q =
    let w : OnTime (day_of d + 1) max_year e = on_says (day_of d + 1) max_year e q in
    let g : GoodDay d = good_day d o in
    rw w.date (day_ok (date_of (day_of d + 1)) (record { date = date_good (day_of d + 1); year_from = from g (leb min_year (date_of (day_of d + 1)).year) refl; year_to = rw w.date at w.year_to }))
  where
    from : GoodDay d → (b : Bool) → leb min_year (date_of (day_of d + 1)).year ≡ b → min_year ≤ (date_of (day_of d + 1)).year
    from g true h = leb-true _ _ h
    from g false h = absurd (bad (leb-false _ _ h))
      where
        bad : (date_of (day_of d + 1)).year < min_year → ⊥
        bad l =
            let x : Date = date_of (day_of d + 1) in
            let a : total year_days (x.year + 1) ≤ total year_days d.year = years_grow (x.year + 1) d.year (omega (arith, g.year_from)) in
            omega (arith, year_ends x (date_good (day_of d + 1)), day_date (day_of d + 1), year_starts d)

-- hour 24: a clock stands with the whole date or with none of it
fine_next : (k : Kind) (d : Date) (z : Option Offset) (u : ℕ) → is_moment k ≡ true → has_part k (code "h") ≡ true → ok_date d.year d.month d.day ≡ true → ok_zone z ≡ true
    → Suits (layout_of k) (template_of k) d u → Fine k (next_day k d z)
unfolding next_day
fine_next k d z u m c o g e =
    fine_pick k (has_part k (code "D")) _ _ (λ a. moved a (dated_of (day_of d + 1) max_year) refl)
    (λ a. fine_value k d 0 z m (record_good d 0 z o (omega arith) g) (record { year = e.year; month = e.month; day = e.day; clock = λ b. refl }))
  where
    moved : has_part k (code "D") ≡ true → (x : Option Date) → dated_of (day_of d + 1) max_year ≡ x → Fine k (start_of_day k z x)
    moved a (Some x) q =
        let y : has_part k (code "Y") ≡ true = with_day (layout_of k) (template_of k) (rows_pass k) c ∙ a in
        let n : has_part k (code "M") ≡ true = sym (with_month (layout_of k) (template_of k) (rows_pass k) c) ∙ y in
        fine_value k x 0 z m (record_good x 0 z (after_good d x o q) (omega arith) g)
        (record { year = λ b. absurd (never (sym b ∙ y)); month = λ b. absurd (never (sym b ∙ n)); day = λ b. absurd (never (sym b ∙ a)); clock = λ b. refl })
    moved a None q = fine_refusal k 2

-- hour 24 was read: the layout has a clock
end_read : (c : FoundClock) (b : Bool) → c.hour ≡ day_end → (b ≡ false → clock_ticks c ≡ 0) → b ≡ true
unfolding clock_ticks
end_read c true h f = refl
end_read c false h f = absurd (bad (f refl))
  where
    bad : clock_ticks c ≡ 0 → ⊥
    bad q = omega (arith, h)

-- the checks of the calendar, the clock and the zone leave valid values alone
pub fine_on_calendar : (k : Kind) (d : FoundDate) (c : FoundClock) (z : FoundZone) → is_moment k ≡ true → c.part < second_ticks
    → Suits (layout_of k) (template_of k) (day_found d) (clock_ticks c) → Fine k (on_calendar k d c z)
unfolding on_calendar clocked ok_parts every
fine_on_calendar k d c z m l e =
    fine_pick k (ok_date d.year d.month d.day) _ _
    (λ o. fine_pick k (good_clock c) _ _
    (λ w. fine_pick k (ok_parts z) _ _ (λ p. zoned o w (zone_good z (leb-true (offset_minutes z) max_zone (both_left _ _ (both_right _ _ p))))) (λ p. fine_refusal k 1))
    (λ w. fine_refusal k 1))
    (λ o. fine_refusal k 1)
  where
    zoned : ok_date d.year d.month d.day ≡ true → good_clock c ≡ true → ok_zone (zone_is z) ≡ true → Fine k (clocked k (day_found d) c (zone_is z))
    zoned o w g =
        fine_pick k (eqb c.hour day_end) _ _
        (λ h. fine_next k (day_found d) (zone_is z) (clock_ticks c) m (end_read c (has_part k (code "h")) (eqb-true c.hour day_end h) e.clock) o g e)
        (λ h. fine_value k (day_found d) (clock_ticks c) (zone_is z) m
        (record_good (day_found d) (clock_ticks c) (zone_is z) o (omega (arith, clock_within c (within_day c (eqb-false c.hour day_end h) w) l)) g) e)
