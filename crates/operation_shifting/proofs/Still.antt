-- A duration of zero moves nothing: PT0S no kind with a whole date or a clock, P0M none with a whole date.
use mathlib.Core.Path.{◌≡◌, refl, ap, ◌∙◌}
use mathlib.Core.Bool.{Bool, true, false}
use Prim.Native.Nat.{ℕ, ◌+◌, ◌-◌, ◌*◌, ◌/◌, ◌%◌, ◌≤◌, min}
use native.Mathlib.Omega.{arith}
use lib.Dec.{leb}
use borrow.Author.Tests.{le-leb}
use Rattle.basis.specs.Choice.{pick, both}
use Rattle.basis.specs.Answer.{gives, refuses}
use Rattle.basis.proofs.Tests.{both_true}
use Rattle.calendar.specs.Calendar.{month_days, month_count}
use Rattle.value.specs.Bounds.{min_year, max_year}
use Rattle.value.specs.Carried.{max_clock}
use Rattle.value.specs.Clocks.{clock_of, at_clock, at_clock_of, duration_of}
use Rattle.value.specs.Refusals.{beyond_result, wrong_kind}
use Rattle.value.specs.Values.{ok_date_time, date_in}
use Rattle.value.specs.Rows.{is_dated, is_clocked, kept}
use Rattle.value.specs.Kinds.{ok_value}
use Rattle.value_instants.specs.Ticks.{local_of}
use Rattle.value.specs.declared.DateTime.{DateTime}
use Rattle.value.specs.declared.DayTime as D
use Rattle.value.specs.declared.YearMonth as Y
use Rattle.value.specs.declared.Kind.{Kind}
use Rattle.value.specs.declared.Value.TheVariants as VV
use Rattle.value.proofs.Good.{good}
use Rattle.value.proofs.ClockLaws.{at_its_clock, clock_to, ticks_of_duration}
use Rattle.value_instants.proofs.Locals.{local_in_years, placed_of_local}
use Rattle.value.proofs.KindParts.{of_kind_kept, moment_good}
use Rattle.operation_quantities.specs.Results.{at_ticks}
use Rattle.operation_shifting.specs.Shifts.{month_of, in_month, moved_to, moved, moved_by, wrapped_clock, shifted, shifted_by}
use Rattle.operation_shifting.proofs.Steps.{dated_shift, clocked_shift}
use Rattle.operation_shifting.proofs.Undo.{placed_gives}

abbrev no_time : D.DayTime
no_time = duration_of false 0

abbrev no_months : Y.YearMonth
no_months = record { negative = false; months = 0 }

by_nothing : (k : Kind) (d : DateTime) → shifted_by k d no_time ≡ shifted k d 0 0
by_nothing k d = λ i. shifted k d (ticks_of_duration false 0 i) 0

same_local_time : (k : Kind) (d : DateTime) → ok_date_time d ≡ true → kept k d ≡ d → at_ticks k (local_of d + 0 - 0) d.zone ≡ gives (VV.Moment k d)
same_local_time k d g e =
    let l : local_of d + 0 - 0 ≡ local_of d = omega arith in
    ap (λ (t : ℕ). at_ticks k t d.zone) l ∙ placed_gives k (local_of d) d.zone (local_in_years d g)
    ∙ (λ i. gives (VV.Moment k (kept k (placed_of_local d g i)))) ∙ (λ i. gives (VV.Moment k (e i)))

same_time_of_day : (u : ℕ) → u ≤ max_clock → wrapped_clock u 0 0 ≡ u
same_time_of_day u h = omega arith

-- of a kind with a whole date, and of one with a clock alone
pub no_time_lem : (k : Kind) (d : DateTime) → ok_value (VV.Moment k d) ≡ true → pick (is_dated k) true (is_clocked k) ≡ true → shifted_by k d no_time ≡ gives (VV.Moment k d)
no_time_lem k d g = go (is_dated k) refl
  where
    go : (b : Bool) → is_dated k ≡ b → pick b true (is_clocked k) ≡ true → shifted_by k d no_time ≡ gives (VV.Moment k d)
    go true n c =
        let h = moment_good (VV.Moment k d) g k d refl in
        by_nothing k d ∙ dated_shift k d 0 0 n ∙ same_local_time k d h.1 (of_kind_kept k d h.2)
    go false n c =
        let h = (good d (moment_good (VV.Moment k d) g k d refl).1).time in
        let m = same_time_of_day (clock_of d) (clock_to d h) in
        by_nothing k d ∙ clocked_shift k d 0 0 n c ∙ (λ i. gives (VV.Moment k (at_clock (date_in d) (m i) d.zone)))
        ∙ (λ i. gives (VV.Moment k (at_its_clock d h i)))

-- the month's number gives its year and its month back
month_back : (y m : ℕ) → 1 ≤ m → m ≤ month_count → ((y * month_count + (m - 1) + 0 - 0) / month_count ≡ y) × ((y * month_count + (m - 1) + 0 - 0) % month_count + 1 ≡ m)
month_back y m h l = (omega arith, omega arith)

same_month : (d : DateTime) → ok_date_time d ≡ true → in_month d (month_of d + 0 - 0) ≡ d
same_month d g =
    let h = (good d g).day.date in
    let b = month_back d.year d.month h.month_from h.month_to in
    let c : min d.day (month_days d.year d.month) ≡ d.day = omega (arith, h.day_to) in
    (λ i. at_clock_of (record { year = b.0 i; month = b.1 i; day = min d.day (month_days (b.0 i) (b.1 i)) }) d d.zone)
    ∙ (λ i. at_clock_of (record { year = d.year; month = d.month; day = c i }) d d.zone)

stays_in_month : (k : Kind) (d : DateTime) → ok_date_time d ≡ true → moved_to k d (month_of d + 0 - 0) ≡ gives (VV.Moment k d)
unfolding moved_to
stays_in_month k d g =
    let r = (good d g).day in
    let b = month_back d.year d.month r.date.month_from r.date.month_to in
    let t : both (leb min_year d.year) (leb d.year max_year) ≡ true = both_true _ _ (le-leb min_year d.year r.year_from) (le-leb d.year max_year r.year_to) in
    (λ i. pick (both (leb min_year (b.0 i)) (leb (b.0 i) max_year)) (gives (VV.Moment k (in_month d (month_of d + 0 - 0)))) (refuses beyond_result))
    ∙ (λ i. pick (t i) (gives (VV.Moment k (same_month d g i))) (refuses beyond_result))

pub no_months_lem : (k : Kind) (d : DateTime) → ok_value (VV.Moment k d) ≡ true → is_dated k ≡ true → moved_by k d no_months ≡ gives (VV.Moment k d)
unfolding moved
no_months_lem k d g n =
    (λ i. pick (n i) (moved_to k d (month_of d + 0 - 0)) (refuses wrong_kind)) ∙ stays_in_month k d (moment_good (VV.Moment k d) g k d refl).1
