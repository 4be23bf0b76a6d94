-- Worked cases by computation, beside those of document 01's table (crate `calls_cases`): the order of the refusals, 16, 9, 5, 4, and
-- either side of a nanosecond.
use Rattle.std.specs.Prelude.{None, Option, Some}
use mathlib.Core.Path.{◌≡◌, refl}
use mathlib.Core.Bool.{Bool, true, false}
use Prim.Native.Nat.{ℕ, ◌+◌, ◌-◌, ◌*◌}
use Rattle.basis.specs.Choice.{both, every}
use Rattle.basis.specs.Answer.{gives, refuses}
use Rattle.calendar.specs.Calendar.{total, period_of, date_of}
use Rattle.value.specs.Bounds.{minute_ticks, hour_ticks, max_day_time}
use Rattle.value.specs.Carried.{max_clock}
use Rattle.value.specs.Clocks.{clock_of, at_clock, same_clock, ticks_in, duration_of}
use Rattle.value.specs.Values.{ok_date, ok_offset, ok_zone, ok_time_part, ok_date_time, ok_signed, ok_day_time}
use Rattle.value.specs.Rows.{has, is_moment, is_dated, is_clocked, of_kind}
use Rattle.value.specs.Kinds.{ok_value}
use Rattle.value_instants.specs.Ticks.{utc, local_of, instant_of, in_years, placed_at}
use Rattle.value.specs.declared.Offset.TheVariants.{East, West}
use Rattle.value.specs.declared.Value.{Value}
use Rattle.value.specs.declared.Kind.TheVariants as KV
use Rattle.value.specs.declared.Value.TheVariants.{Moment, DayTime}
use Rattle.operation_quantities.specs.Results.{in_ticks, at_ticks}
use Rattle.operation_shifting.specs.Shifts.{shifted}
use Rattle.operation_ordering.specs.Order.{order_in, order_for}
use Rattle.operation_arithmetic.specs.Sums.{sum_of, plus_of, less_moment, difference_in, minus_in, minus_for}
use Rattle.operation_arithmetic.specs.Products.{product_of, times_of}
use Rattle.operation_adjusting.specs.Adjustment.{is_zone, adjusted_from, moment_to, value_to, adjust_of}
use Rattle.value.specs.declared.Offset.{Offset}

abbrev date : ℕ → ℕ → ℕ → Value
date y m d = Moment KV.Date (at_clock (record { year = y; month = m; day = d }) 0 None)

abbrev time_of_day : ℕ → ℕ → ℕ
time_of_day h m = h * hour_ticks + m * minute_ticks

abbrev time : ℕ → ℕ → Option Offset → Value
time h m z = Moment KV.Time (at_clock (record { year = 1972; month = 12; day = 31 }) (time_of_day h m) z)

abbrev date_time : ℕ → ℕ → ℕ → ℕ → ℕ → Option Offset → Value
date_time y m d h n z = Moment KV.DateTime (at_clock (record { year = y; month = m; day = d }) (time_of_day h n) z)

-- a date that has a time of day
abbrev timed : ℕ → ℕ → ℕ → ℕ → Value
timed y m d u = Moment KV.Date (at_clock (record { year = y; month = m; day = d }) u None)

abbrev lasts : Bool → ℕ → Value
lasts n t = DayTime (duration_of n t)

-- a record outside the bounds is refused before kinds that do not fit
bounds_before_kinds : (order_in utc (timed 2000 1 1 1) (time 0 0 None) ≡ refuses 16) × (order_in utc (date 2000 1 1) (time 0 0 None) ≡ refuses 9)
unfolding order_in ok_value is_moment has ok_date_time ok_time_part clock_of same_clock ok_date ok_zone of_kind both every
bounds_before_kinds = (refl, refl)

-- so is a zone of over 14 hours for values without one; 14 hours are good
zone_beyond :
    (order_for (East 841) (date 2000 1 1) (time 0 0 None) ≡ refuses 16)
    × (order_for (East 840) (date 2000 1 1) (time 0 0 None) ≡ refuses 9)
    × (minus_for (West 841) (date 2000 1 1) (time 0 0 None) ≡ refuses 16)
    × (order_for (West 840) (date 2000 1 1) (time 0 0 None) ≡ refuses 9)
unfolding order_for minus_for order_in ok_offset ok_value is_moment has ok_date_time ok_time_part clock_of same_clock ok_date ok_zone of_kind both every
zone_beyond = (refl, refl, refl, refl)

-- kinds that do not fit before a bad zone, and a bad zone before a result beyond the years
zone_last :
    (adjust_of (lasts false 0) (lasts false (15 * hour_ticks)) ≡ refuses 9)
    × (adjust_of (date_time 9999 12 31 23 0 (Some (East 0))) (lasts false (15 * hour_ticks)) ≡ refuses 5)
    × (adjust_of (date_time 9999 12 31 23 0 (Some (East 0))) (lasts false hour_ticks) ≡ refuses 4)
    × (adjust_of (date_time 9999 12 31 22 0 (Some (East 0))) (lasts false hour_ticks) ≡ gives (date_time 9999 12 31 23 0 (Some (East 60))))
unfolding adjust_of value_to moment_to adjusted_from is_zone at_ticks placed_at in_years local_of ok_value is_moment of_kind same_clock has ok_date_time ok_time_part clock_of ok_date ok_zone ok_offset ok_day_time ticks_in ok_signed both every total period_of date_of
zone_last = (refl, refl, refl, refl)

-- a factor beyond its bound is refused before a kind that has no product
factor_first : times_of (date 2000 1 31) false 1_000_000 ≡ refuses 16
unfolding times_of product_of ok_value is_moment has ok_date_time ok_time_part clock_of same_clock ok_date ok_zone of_kind both every
factor_first = refl

no_product : times_of (date 2000 1 31) false 999_999 ≡ refuses 9
unfolding times_of product_of ok_value is_moment has ok_date_time ok_time_part clock_of same_clock ok_date ok_zone of_kind both every
no_product = refl

-- a nanosecond leads over the end of a year, forth and back, and round the day
abbrev moment : ℕ → ℕ → ℕ → ℕ → Value
moment y m d t = Moment KV.DateTime (at_clock (record { year = y; month = m; day = d }) t None)

over_the_year :
    (plus_of (moment 1999 12 31 max_clock) (lasts false 1) ≡ gives (moment 2000 1 1 0))
    × (minus_in utc (moment 2000 1 1 0) (lasts false 1) ≡ gives (moment 1999 12 31 max_clock))
    × (minus_in utc (moment 2000 1 1 0) (moment 1999 12 31 max_clock) ≡ gives (lasts false 1))
    × (plus_of (moment 9999 12 31 max_clock) (lasts false 1) ≡ refuses 4)
unfolding plus_of minus_in sum_of difference_in less_moment shifted in_ticks at_ticks placed_at in_years local_of instant_of ok_value is_moment of_kind same_clock has is_dated is_clocked ok_date_time ok_time_part clock_of ok_date ok_zone ok_day_time ticks_in ok_signed both every total period_of date_of
over_the_year = (refl, refl, refl, refl)

-- exactly the bound is good, a nanosecond more is not: of sums, and of products, of which 7 times 142857142857142857143 is one more
-- than 10^21
at_the_bound :
    (plus_of (lasts false (max_day_time - 1)) (lasts false 1) ≡ gives (lasts false max_day_time))
    × (plus_of (lasts false max_day_time) (lasts false 1) ≡ refuses 4)
    × (minus_in utc (lasts true max_day_time) (lasts false 1) ≡ refuses 4)
    × (plus_of (lasts true 1) (lasts false 1) ≡ gives (lasts false 0))
    × (times_of (lasts false 1_000_000_000_000_000) false 999_999 ≡ gives (lasts false 999_999_000_000_000_000_000))
    × (times_of (lasts false 8_000_000_000_000_000_000) true 125 ≡ gives (lasts true max_day_time))
    × (times_of (lasts false 142_857_142_857_142_857_143) false 7 ≡ refuses 4)
    × (times_of (lasts true 142_857_142_857_142_857_142) false 7 ≡ gives (lasts true 999_999_999_999_999_999_994))
    × (times_of (lasts true max_day_time) true 999_999 ≡ refuses 4)
unfolding plus_of minus_in sum_of difference_in times_of product_of in_ticks ok_value ok_day_time ticks_in ok_signed both every
at_the_bound = (refl, refl, refl, refl, refl, refl, refl, refl, refl)

-- a zone of whole minutes and a nanosecond is none
zone_and_a_nanosecond :
    (adjust_of (date_time 2000 1 1 12 0 (Some (East 0))) (lasts false (hour_ticks + 1)) ≡ refuses 5)
    × (adjust_of (date_time 2000 1 1 12 0 (Some (East 0))) (lasts true 1) ≡ refuses 5)
    × (adjust_of (date_time 2000 1 1 12 0 (Some (East 0))) (lasts false (14 * hour_ticks + 1)) ≡ refuses 5)
    × (adjust_of (date_time 2000 1 1 12 0 (Some (East 0))) (lasts false (14 * hour_ticks)) ≡ gives (date_time 2000 1 2 2 0 (Some (East 840))))
unfolding adjust_of value_to moment_to adjusted_from is_zone at_ticks placed_at in_years local_of ok_value is_moment of_kind same_clock has ok_date_time ok_time_part clock_of ok_date ok_zone ok_offset ok_day_time ticks_in ok_signed both every total period_of date_of
zone_and_a_nanosecond = (refl, refl, refl, refl)
