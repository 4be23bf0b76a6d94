-- A kind with a clock and no date, as a time, is never refused for its result: a sum or a difference goes round the
-- day, and an adjusted time stays near its template's day, which is far from either end of the years.
use Rattle.std.specs.Prelude.{Some}
use mathlib.Core.Path.{◌≡◌, refl, ap, sym, ◌∙◌}
use mathlib.Core.Bool.{Bool, true, false}
use Prim.Native.Nat.{ℕ, ◌+◌, ◌-◌, ◌*◌, ◌/◌, ◌≤◌, ◌<◌}
use native.Mathlib.Omega.{arith}
use lib.Dec.{leb}
use borrow.Author.Tests.{leb-true, leb-false, le-leb}
use Rattle.basis.specs.Choice.{pick, both}
use Rattle.basis.specs.Answer.{gives, refuses}
use Rattle.basis.proofs.Tests.{both_left, both_right, both_true}
use Rattle.calendar.specs.Calendar.{total, year_days, day_of, date_of}
use Rattle.calendar.proofs.Leap.{year_has_day}
use Rattle.calendar.proofs.Years.{years_grow, years_next, year_starts, year_ends, year_up_to, days_up_to}
use Rattle.value.specs.Bounds.{min_year, max_year, max_zone, minute_ticks, day_ticks}
use Rattle.value.specs.Carried.{max_clock}
use Rattle.value.specs.Clocks.{clock_of}
use Rattle.value.specs.Refusals.{outside, bad_zone}
use Rattle.value.specs.Values.{ok_offset, date_in}
use Rattle.value.specs.Durations.{plus_ticks, minus_ticks}
use Rattle.value.specs.Rows.{layout_of, template_of, is_dated, is_clocked, kept}
use Rattle.value.specs.Kinds.{ok_value}
use Rattle.value_instants.specs.Ticks.{local_of, at_local, in_years, instant_at, east, west}
use Rattle.value.specs.declared.Offset.{Offset}
use Rattle.value.specs.declared.DateTime.{DateTime}
use Rattle.value.specs.declared.DayTime as D
use Rattle.value.specs.declared.Kind.{Kind}
use Rattle.value.specs.declared.Kind.TheVariants as KV
use Rattle.value.specs.declared.Value.TheVariants as VV
use Rattle.value.proofs.ClockLaws.{clock_to}
use Rattle.value.proofs.Good.{good}
use Rattle.value_instants.proofs.Within.{east_to, west_to}
use Rattle.value.proofs.KindParts.{moment_good, of_kind_kept}
use Rattle.value.proofs.RowTests.{rows_pass}
use Rattle.value.proofs.RowLaws.{row_day}
use Rattle.operation_shifting.specs.Shifts.{wrapped, shifted}
use Rattle.operation_shifting.proofs.Steps.{clocked_shift}
use Rattle.operation_shifting.proofs.Undo.{placed_gives}
use Rattle.operation_arithmetic.specs.Sums.{sum_of, plus_of, difference_in, minus_in}
use Rattle.operation_arithmetic.proofs.Opposites.{plus_ticks_opposite, minus_ticks_opposite}
use Rattle.operation_adjusting.specs.Adjustment.{is_zone, zone_of, local_at, adjusted_from, adjusted_to, moment_to, value_to, adjust_of}
use Rattle.operation.proofs.Keeping.{reference_day, on_reference}
use Rattle.operation_adjusting.proofs.Zones.{zone_ok, own_zone}

-- a kind with a clock alone
pub time_plus_given : (k : Kind) (d : DateTime) (t : D.DayTime) → is_dated k ≡ false → is_clocked k ≡ true → ok_value (VV.Moment k d) ≡ true → ok_value (VV.DayTime t) ≡ true
    → plus_of (VV.Moment k d) (VV.DayTime t) ≡ gives (VV.Moment k (wrapped d (plus_ticks t) (minus_ticks t)))
unfolding plus_of sum_of
time_plus_given k d t p q g h =
    let b : both (ok_value (VV.Moment k d)) (ok_value (VV.DayTime t)) ≡ true = both_true _ _ g h in
    (λ i. pick (b i) (shifted k d (plus_ticks t) (minus_ticks t)) (refuses outside)) ∙ clocked_shift k d (plus_ticks t) (minus_ticks t) p q

pub time_minus_given : (o : Offset) (k : Kind) (d : DateTime) (t : D.DayTime) → is_dated k ≡ false → is_clocked k ≡ true → ok_value (VV.Moment k d) ≡ true
    → ok_value (VV.DayTime t) ≡ true → minus_in o (VV.Moment k d) (VV.DayTime t) ≡ gives (VV.Moment k (wrapped d (minus_ticks t) (plus_ticks t)))
unfolding minus_in difference_in sum_of
time_minus_given o k d t p q g h =
    let b : both (ok_value (VV.Moment k d)) (ok_value (VV.DayTime t)) ≡ true = both_true _ _ g h in
    (λ i. pick (b i) (difference_in o (VV.Moment k d) (VV.DayTime t)) (refuses outside))
    ∙ (λ i. shifted k d (plus_ticks_opposite t i) (minus_ticks_opposite t i))
    ∙ clocked_shift k d (minus_ticks t) (plus_ticks t) p q

-- a local time whose day is between the first and the last of the years
in_years_by : (t : ℕ) → total year_days min_year ≤ t / day_ticks → t / day_ticks < total year_days (max_year + 1) → in_years t ≡ true
unfolding in_years
in_years_by t h l = both_true _ _ (from (leb min_year (date_of (t / day_ticks)).year) refl) (le-leb _ _ (year_up_to (t / day_ticks) max_year l))
  where
    from : (b : Bool) → leb min_year (date_of (t / day_ticks)).year ≡ b → leb min_year (date_of (t / day_ticks)).year ≡ true
    from true e = e
    from false e =
        let y = leb-false min_year (date_of (t / day_ticks)).year e in
        let x : t / day_ticks < total year_days (0 + 1) = days_up_to (t / day_ticks) 0 (omega arith) in
        let n : ◌≡◌ {A = ℕ} 0 1 = omega arith in
        cc

-- each template's year is some years from either end: a row's test
rows_inside : (k : Kind) → both (leb (min_year + 3) (template_of k).year) (leb ((template_of k).year + 3) max_year) ≡ true
unfolding both
rows_inside KV.Date = refl
rows_inside KV.Time = refl
rows_inside KV.DateTime = refl
rows_inside KV.DayTimeDuration = refl
rows_inside KV.YearMonthDuration = refl

-- so its day has days either side
three_years : total year_days min_year + 3 ≤ total year_days (min_year + 3)
unfolding total
three_years = omega arith

three_more : (y : ℕ) → total year_days (y + 1) + 3 ≤ total year_days (y + 1 + 1 + 1 + 1)
three_more y =
    omega (
      arith,
      years_next (y + 1),
      years_next (y + 1 + 1),
      years_next (y + 1 + 1 + 1),
      year_has_day (y + 1),
      year_has_day (y + 1 + 1),
      year_has_day (y + 1 + 1 + 1),
    )

reference_inside : (k : Kind) → (total year_days min_year + 3 ≤ reference_day k) × (reference_day k + 3 ≤ total year_days (max_year + 1))
reference_inside k =
    let d = date_in (template_of k) in
    let r = rows_inside k in
    let a : min_year + 3 ≤ d.year = leb-true _ _ (both_left _ _ r) in
    let b : d.year + 3 ≤ max_year = leb-true _ _ (both_right _ _ r) in
    let g = row_day (layout_of k) (template_of k) (rows_pass k) in
    let s : total year_days d.year ≤ day_of d = year_starts d in
    let e : day_of d < total year_days (d.year + 1) = year_ends d g.date in
    let u = years_grow (min_year + 3) d.year a in
    let v = years_grow (d.year + 1 + 1 + 1 + 1) (max_year + 1) (omega arith) in
    (omega (arith, three_years), omega (arith, three_more d.year))

near_reference : (k : Kind) (t : ℕ) → reference_day k ≤ t / day_ticks + 2 → t / day_ticks ≤ reference_day k + 2 → in_years t ≡ true
near_reference k t h l =
    let r = reference_inside k in
    in_years_by t (omega (arith, r.0)) (omega (arith, r.1))

time_local : (k : Kind) (d : DateTime) → is_dated k ≡ false → is_clocked k ≡ true → ok_value (VV.Moment k d) ≡ true → local_of d ≡ reference_day k * day_ticks + clock_of d
time_local k d p q g =
    let e : kept k d ≡ d = of_kind_kept k d (moment_good (VV.Moment k d) g k d refl).2 in
    ap local_of (sym e) ∙ on_reference k d p q

zone_within : (t : D.DayTime) → ok_value (VV.DayTime t) ≡ true → is_zone t ≡ true → ok_offset (zone_of t) ≡ true
unfolding ok_value
zone_within t h i = zone_ok t h i

-- moved by less than two days
module _ (n u e w a b : ℕ) (hu : u ≤ max_clock) (he : e ≤ max_zone) (hw : w ≤ max_zone) (ha : a ≤ max_zone) (hb : b ≤ max_zone) (hn : 3 ≤ n) where
  abbrev moved_time : ℕ
  moved_time = n * day_ticks + u + w * minute_ticks - e * minute_ticks + a * minute_ticks - b * minute_ticks

  two_days_around : (n ≤ moved_time / day_ticks + 2) × (moved_time / day_ticks ≤ n + 2)
  two_days_around = (omega arith, omega arith)

pub time_adjust_given : (k : Kind) (d : DateTime) (t : D.DayTime) (w : Offset) → is_dated k ≡ false → is_clocked k ≡ true → d.zone ≡ Some w
    → ok_value (VV.Moment k d) ≡ true → ok_value (VV.DayTime t) ≡ true → is_zone t ≡ true
    → adjust_of (VV.Moment k d) (VV.DayTime t)
    ≡ gives (VV.Moment k (kept k (at_local (local_at (instant_at (local_of d) w) (zone_of t)) (Some (zone_of t)))))
unfolding adjust_of value_to moment_to adjusted_from
time_adjust_given k d t w p c z g h i =
    let q : ok_offset (zone_of t) ≡ true = zone_within t h i in
    let own = (moment_good (VV.Moment k d) g k d refl).1 in
    let o = own_zone d w own z in
    let l : ℕ = local_at (instant_at (local_of d) w) (zone_of t) in
    let b : both (ok_value (VV.Moment k d)) (ok_value (VV.DayTime t)) ≡ true = both_true _ _ g h in
    let r = two_days_around (reference_day k) (clock_of d) (east w) (west w) (east (zone_of t)) (west (zone_of t)) (clock_to d (good d own).time)
    (east_to w o) (west_to w o) (east_to (zone_of t) q) (west_to (zone_of t) q) (omega (arith, (reference_inside k).0)) in
    let s : l ≡ reference_day k * day_ticks + clock_of d + west w * minute_ticks - east w * minute_ticks + east (zone_of t) * minute_ticks - west (zone_of t) * minute_ticks
    = ap (λ (x : ℕ). local_at (instant_at x w) (zone_of t)) (time_local k d p c g) in
    let y : in_years l ≡ true = ap in_years s ∙ near_reference k _ r.0 r.1 in
    (λ j. pick (b j) (adjusted_to k d t) (refuses outside)) ∙ (λ j. pick (i j) (adjusted_from k d (z j) (zone_of t)) (refuses bad_zone))
    ∙ placed_gives k l (Some (zone_of t)) y
