-- Worked cases, by computation, beside those of document 01's table (crate `calls_cases`): years, zones and fractions at their
-- bounds, and texts in which several checks fail, where the first of document 01's order decides.
use Rattle.std.specs.Prelude.{None, Some}
use mathlib.Core.Path.{◌≡◌, refl}
use Prim.Native.Nat.{◌+◌, ◌*◌, ◌/◌}
use Rattle.basis.specs.Choice.{both, every}
use Rattle.basis.specs.Answer.{gives, refuses}
use Rattle.basis.specs.Letters.{bytes}
use Rattle.calendar.specs.Calendar.{dated_of, date_of, total, period_of}
use Rattle.calendar.specs.declared.Date.{Date}
use Rattle.value.specs.Bounds.{max_zone, second_ticks, hour_ticks}
use Rattle.value.specs.Carried.{max_clock}
use Rattle.value.specs.Clocks.{clock_of, at_clock}
use Rattle.value.specs.Values.{ok_date, date_in}
use Rattle.value.specs.Rows.{is_moment, has, template_of}
use Rattle.value.specs.declared.Offset.TheVariants.{East, West}
use Rattle.value.specs.declared.Kind.TheVariants as KV
use Rattle.value.specs.declared.Value.TheVariants as VV
use Rattle.numerals.specs.Reading.{is_digit, number, fraction_at}
use Rattle.numerals.specs.Writing.{digits, kept_digits, fraction_text}
use Rattle.text_scan.specs.Scanning.{uncapped, pair_at, four_zeros, year_at, year_part, fraction_part, zone_part, zone_signed, is_pair, with_pair, part_at, scanned, scanned_parts}
use Rattle.text_checks.specs.Reading.{judge, bounded, on_calendar, ok_parts, zone_is, clocked, ok_clock, is_day_end, good_clock, clock_ticks, next_day}
use Rattle.text_layouts.specs.Reading.{read_layout}
use Rattle.text_layouts.specs.Writing.{kind_text, layout_text, part_text, pair_of}

-- the day of a time
abbrev reference : Date
reference = date_in (template_of KV.Time)

-- A year is not 0, and has as many digits as it likes.
no_year : read_layout KV.Date (bytes "0000-01-01") ≡ refuses 1
unfolding is_digit number fraction_at pair_at four_zeros year_at year_part fraction_part zone_part zone_signed is_pair with_pair part_at scanned read_layout is_moment judge bounded on_calendar ok_parts zone_is clocked ok_clock is_day_end good_clock clock_ticks next_day has clock_of ok_date every both dated_of date_of total period_of
no_year = refl

no_year_before : read_layout KV.Date (bytes "-0000-01-01") ≡ refuses 1
unfolding is_digit number fraction_at pair_at four_zeros year_at year_part fraction_part zone_part zone_signed is_pair with_pair part_at scanned read_layout is_moment judge bounded on_calendar ok_parts zone_is clocked ok_clock is_day_end good_clock clock_ticks next_day has clock_of ok_date every both dated_of date_of total period_of
no_year_before = refl

before_year_one : read_layout KV.Date (bytes "-0001-01-01") ≡ refuses 2
unfolding is_digit number fraction_at pair_at four_zeros year_at year_part fraction_part zone_part zone_signed is_pair with_pair part_at scanned read_layout is_moment judge bounded on_calendar ok_parts zone_is clocked ok_clock is_day_end good_clock clock_ticks next_day has clock_of ok_date every both dated_of date_of total period_of
before_year_one = refl

many_digits : read_layout KV.Date (bytes "1234567890123456789012345678901234567890-01-01") ≡ refuses 2
unfolding is_digit number fraction_at pair_at four_zeros year_at year_part fraction_part zone_part zone_signed is_pair with_pair part_at scanned read_layout is_moment judge bounded on_calendar ok_parts zone_is clocked ok_clock is_day_end good_clock clock_ticks next_day has clock_of ok_date every both dated_of date_of total period_of
many_digits = refl

-- 13. Zones and fractions.
farthest_zone : read_layout KV.Date (bytes "2000-01-01+14:00") ≡ gives (VV.Moment KV.Date (at_clock (record { year = 2000; month = 1; day = 1 }) 0 (Some (East max_zone))))
unfolding is_digit number fraction_at pair_at four_zeros year_at year_part fraction_part zone_part zone_signed is_pair with_pair part_at scanned read_layout is_moment judge bounded on_calendar ok_parts zone_is clocked ok_clock is_day_end good_clock clock_ticks next_day has clock_of ok_date every both dated_of date_of total period_of
farthest_zone = refl

too_far_zone : read_layout KV.Date (bytes "2000-01-01+14:01") ≡ refuses 1
unfolding is_digit number fraction_at pair_at four_zeros year_at year_part fraction_part zone_part zone_signed is_pair with_pair part_at scanned read_layout is_moment judge bounded on_calendar ok_parts zone_is clocked ok_clock is_day_end good_clock clock_ticks next_day has clock_of ok_date every both dated_of date_of total period_of
too_far_zone = refl

seven_zeros : read_layout KV.Time (bytes "12:00:00.0000000") ≡ gives (VV.Moment KV.Time (at_clock reference (12 * hour_ticks) None))
unfolding is_digit number fraction_at pair_at four_zeros year_at year_part fraction_part zone_part zone_signed is_pair with_pair part_at scanned read_layout is_moment judge bounded on_calendar ok_parts zone_is clocked ok_clock is_day_end good_clock clock_ticks next_day has clock_of ok_date every both dated_of date_of total period_of
seven_zeros = refl

six_digits : read_layout KV.Time (bytes "12:00:00.000001") ≡ gives (VV.Moment KV.Time (at_clock reference (12 * hour_ticks + 1_000) None))
unfolding is_digit number fraction_at pair_at four_zeros year_at year_part fraction_part zone_part zone_signed is_pair with_pair part_at scanned read_layout is_moment judge bounded on_calendar ok_parts zone_is clocked ok_clock is_day_end good_clock clock_ticks next_day has clock_of ok_date every both dated_of date_of total period_of
six_digits = refl

nine_digits : read_layout KV.Time (bytes "12:00:00.000000001") ≡ gives (VV.Moment KV.Time (at_clock reference (12 * hour_ticks + 1) None))
unfolding is_digit number fraction_at pair_at four_zeros year_at year_part fraction_part zone_part zone_signed is_pair with_pair part_at scanned read_layout is_moment judge bounded on_calendar ok_parts zone_is clocked ok_clock is_day_end good_clock clock_ticks next_day has clock_of ok_date every both dated_of date_of total period_of
nine_digits = refl

last_nanosecond : read_layout KV.Time (bytes "23:59:59.999999999") ≡ gives (VV.Moment KV.Time (at_clock reference max_clock None))
unfolding is_digit number fraction_at pair_at four_zeros year_at year_part fraction_part zone_part zone_signed is_pair with_pair part_at scanned read_layout is_moment judge bounded on_calendar ok_parts zone_is clocked ok_clock is_day_end good_clock clock_ticks next_day has clock_of ok_date every both dated_of date_of total period_of
last_nanosecond = refl

ten_zeros : read_layout KV.Time (bytes "12:00:00.0000000000") ≡ refuses 3
unfolding is_digit number fraction_at pair_at four_zeros year_at year_part fraction_part zone_part zone_signed is_pair with_pair part_at scanned read_layout is_moment judge bounded on_calendar ok_parts zone_is clocked ok_clock is_day_end good_clock clock_ticks next_day has clock_of ok_date every both dated_of date_of total period_of
ten_zeros = refl

no_digit_after_point : read_layout KV.Time (bytes "12:00:00.") ≡ refuses 1
unfolding is_digit number fraction_at pair_at four_zeros year_at year_part fraction_part zone_part zone_signed is_pair with_pair part_at scanned read_layout is_moment judge bounded on_calendar ok_parts zone_is clocked ok_clock is_day_end good_clock clock_ticks next_day has clock_of ok_date every both dated_of date_of total period_of
no_digit_after_point = refl

-- The order holds across the whole text.
long_and_bad_hour : read_layout KV.Time (bytes "25:00:00.0000000000") ≡ refuses 3
unfolding is_digit number fraction_at pair_at four_zeros year_at year_part fraction_part zone_part zone_signed is_pair with_pair part_at scanned read_layout is_moment judge bounded on_calendar ok_parts zone_is clocked ok_clock is_day_end good_clock clock_ticks next_day has clock_of ok_date every both dated_of date_of total period_of
long_and_bad_hour = refl

long_and_great_year : read_layout KV.DateTime (bytes "12000-01-01T00:00:00.0000000000") ≡ refuses 3
unfolding is_digit number fraction_at pair_at four_zeros year_at year_part fraction_part zone_part zone_signed is_pair with_pair part_at scanned read_layout is_moment judge bounded on_calendar ok_parts zone_is clocked ok_clock is_day_end good_clock clock_ticks next_day has clock_of ok_date every both dated_of date_of total period_of
long_and_great_year = refl

bad_zone_at_the_end : read_layout KV.DateTime (bytes "9999-12-31T24:00:00+14:01") ≡ refuses 1
unfolding is_digit number fraction_at pair_at four_zeros year_at year_part fraction_part zone_part zone_signed is_pair with_pair part_at scanned read_layout is_moment judge bounded on_calendar ok_parts zone_is clocked ok_clock is_day_end good_clock clock_ticks next_day has clock_of ok_date every both dated_of date_of total period_of
bad_zone_at_the_end = refl

bad_zone_after_the_end : read_layout KV.Time (bytes "24:00:00+14:01") ≡ refuses 1
unfolding is_digit number fraction_at pair_at four_zeros year_at year_part fraction_part zone_part zone_signed is_pair with_pair part_at scanned read_layout is_moment judge bounded on_calendar ok_parts zone_is clocked ok_clock is_day_end good_clock clock_ticks next_day has clock_of ok_date every both dated_of date_of total period_of
bad_zone_after_the_end = refl

-- Of a time hour 24 is 00:00:00 of the same reference day; with a fraction it is bad.
time_ends : read_layout KV.Time (bytes "24:00:00") ≡ gives (VV.Moment KV.Time (at_clock reference 0 None))
unfolding is_digit number fraction_at pair_at four_zeros year_at year_part fraction_part zone_part zone_signed is_pair with_pair part_at scanned read_layout is_moment judge bounded on_calendar ok_parts zone_is clocked ok_clock is_day_end good_clock clock_ticks next_day has clock_of ok_date every both dated_of date_of total period_of
time_ends = refl

time_ends_late : read_layout KV.Time (bytes "24:00:00.000001") ≡ refuses 1
unfolding is_digit number fraction_at pair_at four_zeros year_at year_part fraction_part zone_part zone_signed is_pair with_pair part_at scanned read_layout is_moment judge bounded on_calendar ok_parts zone_is clocked ok_clock is_day_end good_clock clock_ticks next_day has clock_of ok_date every both dated_of date_of total period_of
time_ends_late = refl

-- Zone -00:00 is zone 0, and that is written Z.
minus_zero : read_layout KV.Time (bytes "12:00:00-00:00") ≡ gives (VV.Moment KV.Time (at_clock reference (12 * hour_ticks) (Some (East 0))))
unfolding is_digit number fraction_at pair_at four_zeros year_at year_part fraction_part zone_part zone_signed is_pair with_pair part_at scanned read_layout is_moment judge bounded on_calendar ok_parts zone_is clocked ok_clock is_day_end good_clock clock_ticks next_day has clock_of ok_date every both dated_of date_of total period_of
minus_zero = refl

written_z : kind_text KV.Time (at_clock reference (12 * hour_ticks) (Some (East 0))) ≡ bytes "12:00:00Z"
unfolding layout_text part_text pair_of is_pair digits kept_digits fraction_text clock_of
written_z = refl

written_west : kind_text KV.DateTime (at_clock (record { year = 33; month = 4; day = 3 }) (15 * hour_ticks + second_ticks / 2) (Some (West 90))) ≡ bytes "0033-04-03T15:00:00.5-01:30"
unfolding layout_text part_text pair_of is_pair digits kept_digits fraction_text clock_of
written_west = refl

-- A reader stops at the first byte that no good text could have there.
stops_at_fourth : (scanned_parts uncapped KV.Date (bytes "0000-01-01")).at ≡ 3
unfolding is_digit number pair_at four_zeros year_at year_part zone_part is_pair with_pair part_at scanned both every
stops_at_fourth = refl

stops_at_fifth : (scanned_parts uncapped KV.Date (bytes "02000-01-01")).at ≡ 4
unfolding is_digit number pair_at four_zeros year_at year_part zone_part is_pair with_pair part_at scanned both every
stops_at_fifth = refl

stops_at_month : (scanned_parts uncapped KV.Date (bytes "2000-1-01")).at ≡ 6
unfolding is_digit number pair_at four_zeros year_at year_part zone_part is_pair with_pair part_at scanned both every
stops_at_month = refl
