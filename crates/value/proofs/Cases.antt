-- Document 01, "Values and their bounds" and refusal 16, by computation: records just outside the bounds, each beside its
-- neighbour within them.
use Rattle.std.specs.Prelude.{None, Option, Some}
use mathlib.Core.Path.{◌≡◌, refl}
use mathlib.Core.Bool.{Bool, true, false}
use Prim.Native.Nat.{ℕ, ◌+◌}
use Rattle.basis.specs.Choice.{both, every}
use Rattle.basis.specs.Answer.{gives, refuses}
use Rattle.value.specs.Bounds.{day_ticks}
use Rattle.value.specs.Carried.{max_clock}
use Rattle.value.specs.Clocks.{with_time, same_clock, ticks_in, with_size}
use Rattle.value.specs.Values.{ok_date, ok_offset, ok_zone, ok_time_part, ok_date_time, ok_signed, ok_day_time}
use Rattle.value.specs.Rows.{is_moment, has, of_kind}
use Rattle.value.specs.Kinds.{ok_value, made}
use Rattle.value.specs.declared.Offset.TheVariants.{East, West}
use Rattle.value.specs.declared.DateTime as D
use Rattle.value.specs.declared.Value.{Value}
use Rattle.value.specs.declared.Value.TheVariants.{Moment, DayTime, YearMonth}
use Rattle.value.specs.declared.Kind.TheVariants as KV
use Rattle.value.specs.declared.Offset.{Offset}

-- a day has one tick more than the greatest time of day
pub last_tick : max_clock + 1 ≡ day_ticks
last_tick = refl

abbrev Taken : Value → Type 0
Taken v = made v ≡ gives v

abbrev Refused : Value → Type 0
Refused v = made v ≡ refuses 16

abbrev at : ℕ → ℕ → ℕ → ℕ → ℕ → Option Offset → D.DateTime
at y m d s n z = with_time (record { year = y; month = m; day = d }) s n z

abbrev on : ℕ → ℕ → ℕ → Option Offset → D.DateTime
on y m d z = at y m d 0 0 z

abbrev lasts : Bool → ℕ → ℕ → Value
lasts b s n = DayTime (with_size b s n)

abbrev months : Bool → ℕ → Value
months n t = YearMonth (record { negative = n; months = t })

-- zero has no sign, and it is zero only where both numbers are
negative_zero :
    Refused (lasts true 0 0)
    × Taken (lasts false 0 0)
    × Taken (lasts true 0 1)
    × Taken (lasts true 1 0)
    × Refused (months true 0)
    × Taken (months false 0)
    × Taken (months true 1)
unfolding made ok_value ok_day_time ticks_in ok_signed both every
negative_zero = (refl, refl, refl, refl, refl, refl, refl)

-- the durations' bounds, either sign: not a nanosecond more, and no second's worth of nanoseconds
longest_durations :
    Taken (lasts true 1_000_000_000_000 0)
    × Refused (lasts true 1_000_000_000_000 1)
    × Refused (lasts false 1_000_000_000_000 1)
    × Taken (lasts false 999_999_999_999 999_999_999)
    × Refused (lasts false 999_999_999_999 1_000_000_000)
    × Refused (lasts false 0 1_000_000_000)
    × Taken (months false 1_000_000)
    × Refused (months false 1_000_001)
unfolding made ok_value ok_day_time ticks_in ok_signed both every
longest_durations = (refl, refl, refl, refl, refl, refl, refl, refl)

-- a zone of zero minutes is east, and none is beyond 14 hours
zones :
    Refused (Moment KV.Date (on 2000 1 1 (Some (West 0))))
    × Taken (Moment KV.Date (on 2000 1 1 (Some (East 0))))
    × Taken (Moment KV.Date (on 2000 1 1 (Some (West 1))))
    × Refused (Moment KV.Date (on 2000 1 1 (Some (East 841))))
    × Taken (Moment KV.Date (on 2000 1 1 (Some (East 840))))
    × Refused (Moment KV.Date (on 2000 1 1 (Some (West 841))))
    × Taken (Moment KV.Date (on 2000 1 1 (Some (West 840))))
unfolding made ok_value ok_date_time ok_time_part same_clock ok_date ok_zone ok_offset is_moment has of_kind both every
zones = (refl, refl, refl, refl, refl, refl, refl)

-- the calendar and its years
days :
    Refused (Moment KV.Date (on 1900 2 29 None))
    × Taken (Moment KV.Date (on 1900 2 28 None))
    × Taken (Moment KV.Date (on 2000 2 29 None))
    × Refused (Moment KV.Date (on 0 12 31 None))
    × Taken (Moment KV.Date (on 1 1 1 None))
    × Taken (Moment KV.Date (on 9999 12 31 None))
    × Refused (Moment KV.Date (on 10000 1 1 None))
unfolding made ok_value ok_date_time ok_time_part same_clock ok_date ok_zone is_moment has of_kind both every
days = (refl, refl, refl, refl, refl, refl, refl)

-- a date has no time of day, a time no day but the reference day; neither reaches the end of the day, or of a second
parts_of_kinds :
    Refused (Moment KV.Date (at 2000 1 1 1 0 None))
    × Refused (Moment KV.Date (at 2000 1 1 0 1 None))
    × Taken (Moment KV.DateTime (at 2000 1 1 0 1 None))
    × Refused (Moment KV.Time (at 2000 1 1 0 1 None))
    × Taken (Moment KV.Time (at 1972 12 31 0 1 None))
    × Taken (Moment KV.Time (at 1972 12 31 86_399 999_999_999 None))
    × Refused (Moment KV.Time (at 1972 12 31 86_400 0 None))
    × Refused (Moment KV.Time (at 1972 12 31 0 1_000_000_000 None))
unfolding made ok_value ok_date_time ok_time_part same_clock ok_date ok_zone is_moment has of_kind both every
parts_of_kinds = (refl, refl, refl, refl, refl, refl, refl, refl)

-- a moment is of no duration's kind, whatever its record
no_duration_moments :
    Refused (Moment KV.DayTimeDuration (on 1972 12 31 None))
    × Refused (Moment KV.YearMonthDuration (on 1972 12 31 None))
    × Taken (Moment KV.Time (on 1972 12 31 None))
    × Refused (Moment KV.Time (on 1972 12 30 None))
    × Refused (Moment KV.Time (on 1972 11 30 None))
    × Refused (Moment KV.Time (on 1971 12 31 None))
unfolding made ok_value ok_date_time ok_time_part same_clock ok_date ok_zone is_moment has of_kind both every
no_duration_moments = (refl, refl, refl, refl, refl, refl)
