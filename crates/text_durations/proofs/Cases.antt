-- Worked cases by computation, beside those of document 01's table (crate `calls_cases`): fractions and totals at their bounds,
-- and where reading stops.
use mathlib.Core.Path.{◌≡◌, refl}
use mathlib.Core.Bool.{true, false}
use Prim.Native.Nat.{ℕ, ◌+◌, ◌*◌, ◌/◌}
use Prim.Native.String.{String}
use Rattle.basis.specs.Choice.{both}
use Rattle.basis.specs.Letters.{bytes}
use Rattle.basis.specs.Answer.{gives, refuses}
use Rattle.value.specs.Bounds.{second_ticks, day_ticks, max_day_time}
use Rattle.value.specs.Clocks.{ticks_in, duration_of}
use Rattle.value.specs.declared.Kind.TheVariants as KV
use Rattle.value.specs.declared.Value.TheVariants as VV
use Rattle.value.specs.Rows.{has}
use Rattle.numerals.specs.Reading.{is_digit, number, fraction_at}
use Rattle.numerals.specs.Writing.{digits, shortest, decimal, kept_digits, fraction_text}
use Rattle.text_durations.specs.declared.Amount.{Amount}
use Rattle.text_forms.specs.Forms.{Form, weight, day_time, year_month}
use Rattle.text_durations.specs.Walks.{component, components, shape_from, shape, counted, read_by, read_duration}
use Rattle.text_durations.specs.Carried.{shape_end}
use Rattle.text_durations.specs.Spelling.{shown, shown_all, left, body, duration_text, duration_text_of}

-- the greatest number of months below zero, and none
pub writes_most_months : duration_text_of (VV.YearMonth (record { negative = true; months = 1_000_000 })) ≡ bytes "-P83333Y4M"
unfolding digits shortest decimal kept_digits fraction_text both weight shown shown_all left body duration_text
writes_most_months = refl

pub writes_no_months : duration_text_of (VV.YearMonth (record { negative = false; months = 0 })) ≡ bytes "P0M"
unfolding duration_text
writes_no_months = refl

-- a fraction: of nine digits it reads, of ten it is 3, also where the total is beyond the bound; of none it has no shape
pub reads_fraction : read_duration KV.DayTimeDuration (bytes "-P1DT0.000000001S") ≡ gives (VV.DayTime (duration_of true (day_ticks + 1)))
unfolding has is_digit number fraction_at both weight component components shape_from shape counted read_by
reads_fraction = refl

pub writes_fraction : duration_text_of (VV.DayTime (duration_of true (day_ticks + second_ticks / 2))) ≡ bytes "-P1DT0.5S"
unfolding ticks_in digits shortest decimal kept_digits fraction_text both weight shown shown_all left body duration_text
writes_fraction = refl

pub six_digits : read_duration KV.DayTimeDuration (bytes "-P1DT0.000001S") ≡ gives (VV.DayTime (duration_of true (day_ticks + 1_000)))
unfolding has is_digit number fraction_at both weight component components shape_from shape counted read_by
six_digits = refl

pub ten_digits : read_duration KV.DayTimeDuration (bytes "PT99999999999999999999.0000000000S") ≡ refuses 3
unfolding has is_digit number fraction_at both weight component components shape_from shape counted read_by
ten_digits = refl

-- a nanosecond below zero, and nothing below it
pub one_below : read_duration KV.DayTimeDuration (bytes "-PT0.000000001S") ≡ gives (VV.DayTime (duration_of true 1))
unfolding has is_digit number fraction_at both weight component components shape_from shape counted read_by
one_below = refl

pub writes_one_below : duration_text_of (VV.DayTime (duration_of true 1)) ≡ bytes "-PT0.000000001S"
unfolding ticks_in digits shortest decimal kept_digits fraction_text both weight shown shown_all left body duration_text
writes_one_below = refl

pub no_negative_zero : read_duration KV.DayTimeDuration (bytes "-PT0.000000000S") ≡ gives (VV.DayTime (duration_of false 0))
unfolding has is_digit number fraction_at both weight component components shape_from shape counted read_by
no_negative_zero = refl

pub no_fraction_digit : read_duration KV.DayTimeDuration (bytes "PT1.S") ≡ refuses 1
unfolding has is_digit number fraction_at both weight component components shape_from shape counted read_by
no_fraction_digit = refl

-- 10^12 seconds and a tick more, and a component of many digits
pub most_seconds : read_duration KV.DayTimeDuration (bytes "PT1000000000000S") ≡ gives (VV.DayTime (duration_of false max_day_time))
unfolding has is_digit number fraction_at both weight component components shape_from shape counted read_by
most_seconds = refl

pub one_tick_more : read_duration KV.DayTimeDuration (bytes "-PT1000000000000.000000001S") ≡ refuses 2
unfolding has is_digit number fraction_at both weight component components shape_from shape counted read_by
one_tick_more = refl

pub many_digits : read_duration KV.DayTimeDuration (bytes "P00000000000000000000000000000000001D") ≡ gives (VV.DayTime (duration_of false day_ticks))
unfolding has is_digit number fraction_at both weight component components shape_from shape counted read_by
many_digits = refl

-- months and seconds are counted apart, in a form that has both
abbrev both_sums : Form
both_sums = record { before = bytes "YMD"; after = bytes "HMS"; nothing = bytes "PT0S" }

abbrev some_of_both : Amount
some_of_both = record { negative = true; sums = record { months = 14; seconds = 273_906 }; ticks = 7 * second_ticks / 10 }

pub reads_both : read_by both_sums (bytes "-P1Y2M3DT4H5M6.7S") ≡ gives some_of_both
unfolding has is_digit number fraction_at both weight component components shape_from shape counted read_by
reads_both = refl

pub writes_both : duration_text both_sums some_of_both ≡ bytes "-P1Y2M3DT4H5M6.7S"
unfolding digits shortest decimal kept_digits fraction_text both weight shown shown_all left body duration_text
writes_both = refl

-- where reading stops: at the first byte that no good text could have there, or at the end of a text that stops short
abbrev stops : String → ℕ
stops t = shape_end day_time (bytes t)

pub offsets :
    (stops "" ≡ 0)
    × (stops "-" ≡ 1)
    × (stops "P" ≡ 1)
    × (stops "PT" ≡ 2)
    × (stops "P1DT" ≡ 4)
    × (stops "P1" ≡ 2)
    × (stops "P1Y" ≡ 2)
    × (stops "P1D1H" ≡ 3)
    × (stops "PT1M1H" ≡ 5)
    × (stops "PT1.S" ≡ 4)
    × (stops "PT1.5X" ≡ 5)
    × (stops "PT1.5SX" ≡ 6)
    × (stops "P1DX" ≡ 3)
    × (stops "X" ≡ 0)
    × (shape_end year_month (bytes "P1YT") ≡ 3)
    × (shape_end year_month (bytes "P1M1Y") ≡ 3)
unfolding is_digit number fraction_at both weight component components shape_from shape
offsets = (refl, refl, refl, refl, refl, refl, refl, refl, refl, refl, refl, refl, refl, refl, refl, refl)
