-- Every value that a shift, a move of months or a result gives is within its kind's bounds.
use Rattle.std.specs.Prelude.{None, Option, Some}
use mathlib.Core.Path.{◌≡◌, refl}
use mathlib.Core.Bool.{Bool, true, false}
use Prim.Native.Nat.{ℕ, ◌+◌, ◌-◌, ◌/◌, ◌%◌, ◌≤◌}
use native.Mathlib.Omega.{arith}
use lib.Dec.{leb}
use borrow.Author.Tests.{leb-true}
use Rattle.basis.specs.Choice.{pick, both}
use Rattle.basis.specs.Answer.{gives, refuses}
use Rattle.basis.proofs.Tests.{both_left, both_right}
use Rattle.calendar.specs.Calendar.{month_days, month_count}
use Rattle.value.specs.Bounds.{min_year, max_year}
use Rattle.value.specs.Clocks.{clock_of}
use Rattle.value.specs.Refusals.{beyond_result, wrong_kind}
use Rattle.value.specs.Values.{ok_zone, ok_date_time, ok_day_time, ok_year_month, date_in}
use Rattle.value.specs.Durations.{less_ticks, less_months}
use Rattle.value.specs.Rows.{is_moment, is_dated, is_clocked, kept}
use Rattle.value.specs.Kinds.{ok_value}
use Rattle.value.specs.Carried.{valid}
use Rattle.value_instants.specs.Ticks.{local_of, at_local, in_years, placed_at}
use Rattle.value.specs.declared.DateTime.{DateTime}
use Rattle.value.specs.declared.Kind.{Kind}
use Rattle.value.specs.declared.Value.TheVariants as VV
use Rattle.value.proofs.Good.{good, record_ok}
use Rattle.value.proofs.ClockLaws.{time_part_at, time_part_kept}
use Rattle.value_instants.proofs.Locals.{placed_ok}
use Rattle.value.proofs.KindParts.{moment_good, moment_ok}
use Rattle.value.proofs.RowLaws.{cast_good, cast_of_kind, of_kind_dated, of_kind_clocked}
use Rattle.operation_quantities.specs.Results.{in_ticks, in_months, at_ticks, of_placed}
use Rattle.operation_shifting.specs.Shifts.{month_of, in_month, moved_to, moved, wrapped_clock, wrapped, shifted}
use Rattle.operation_shifting.proofs.Lengths.{month_has_day}
use Rattle.operation_quantities.proofs.Given.{valid_pick, valid_test}
use Rattle.value.specs.declared.Offset.{Offset}

pub ticks_valid : (p q : ℕ) → valid (in_ticks p q) ≡ true
unfolding in_ticks ok_value
ticks_valid p q = valid_test (ok_day_time (less_ticks p q)) (VV.DayTime (less_ticks p q)) beyond_result (λ e. e)

pub months_valid : (p q : ℕ) → valid (in_months p q) ≡ true
unfolding in_months ok_value
months_valid p q = valid_test (ok_year_month (less_months p q)) (VV.YearMonth (less_months p q)) beyond_result (λ e. e)

-- what a kind that is a moment keeps of a record within the bounds is a value within them
kept_valid : (k : Kind) (d : DateTime) → is_moment k ≡ true → ok_date_time d ≡ true → ok_value (VV.Moment k (kept k d)) ≡ true
kept_valid k d m g = moment_ok k (kept k d) m (cast_good k d g) (cast_of_kind k d)

pub placed_valid : (k : Kind) (t : ℕ) (z : Option Offset) → is_moment k ≡ true → ok_zone z ≡ true → valid (at_ticks k t z) ≡ true
unfolding at_ticks placed_at
placed_valid k t z m g = go (in_years t) refl
  where
    go : (b : Bool) → in_years t ≡ b → valid (of_placed k (pick b (Some (at_local t z)) None)) ≡ true
    go true e = kept_valid k (at_local t z) m (placed_ok t z e g)
    go false e = refl

-- a record in another month
month_ok : (d : DateTime) (t : ℕ) → ok_date_time d ≡ true → both (leb min_year (t / month_count)) (leb (t / month_count) max_year) ≡ true
    → ok_date_time (in_month d t) ≡ true
month_ok d t g e =
    let h = good d g in
    let l : 1 ≤ month_days (t / month_count) (t % month_count + 1) = month_has_day (t / month_count) (t % month_count + 1) (omega arith) (omega arith) in
    record_ok (in_month d t)
    (record {
      day =
          record {
            date =
                record {
                  month_from = omega arith;
                  month_to = omega arith;
                  day_from = omega (arith, h.day.date.day_from);
                  day_to = omega arith;
                };
            year_from = leb-true _ _ (both_left _ _ e);
            year_to = leb-true _ _ (both_right _ _ e);
          };
      time = time_part_kept (date_in (in_month d t)) d d.zone h.time;
      zone = h.zone;
    })

pub moved_valid : (k : Kind) (d : DateTime) (p q : ℕ) → ok_value (VV.Moment k d) ≡ true → valid (moved k d p q) ≡ true
unfolding moved moved_to
moved_valid k d p q g =
    let t : ℕ = month_of d + p - q in
    let h = moment_good (VV.Moment k d) g k d refl in
    valid_pick (is_dated k) (moved_to k d t) (refuses wrong_kind)
    (λ n.
    valid_test (both (leb min_year (t / month_count)) (leb (t / month_count) max_year)) (VV.Moment k (in_month d t)) beyond_result
    (λ e. moment_ok k (in_month d t) h.0 (month_ok d t h.1 e) (of_kind_dated k d (date_in (in_month d t)) d.zone n h.2)))
    refl

-- a time round the day
wrapped_ok : (d : DateTime) (p q : ℕ) → ok_date_time d ≡ true → ok_date_time (wrapped d p q) ≡ true
wrapped_ok d p q g =
    let h = good d g in
    record_ok (wrapped d p q)
    (record { day = h.day; time = time_part_at (date_in d) (wrapped_clock (clock_of d) p q) d.zone (omega arith); zone = h.zone })

pub shifted_valid : (k : Kind) (d : DateTime) (p q : ℕ) → ok_value (VV.Moment k d) ≡ true → valid (shifted k d p q) ≡ true
unfolding shifted
shifted_valid k d p q g =
    let h = moment_good (VV.Moment k d) g k d refl in
    valid_pick (is_dated k) (at_ticks k (local_of d + p - q) d.zone) (pick (is_clocked k) (gives (VV.Moment k (wrapped d p q))) (refuses wrong_kind))
    (λ n. placed_valid k (local_of d + p - q) d.zone h.0 (good d h.1).zone)
    (valid_test (is_clocked k) (VV.Moment k (wrapped d p q)) wrong_kind
    (λ c. moment_ok k (wrapped d p q) h.0 (wrapped_ok d p q h.1) (of_kind_clocked k d (wrapped_clock (clock_of d) p q) d.zone c h.2)))
