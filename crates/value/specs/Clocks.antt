-- Document 02, e: "The time part of the record becomes whole second and nanosecond"; a dayTimeDuration has "nanoseconds
-- beside the seconds and one sign for both". Here both are numbers of ticks. How the records keep them is known to this page
-- and to the bounds on each of their numbers (Values.antt), and to no other definition.
use Rattle.std.specs.Prelude.{Bool, ℕ, ◌+◌, ◌*◌, ◌/◌, ◌%◌, eqb, Option}
use Rattle.basis.specs.Choice.{both}
use Rattle.calendar.specs.declared.Date.{Date}
use Rattle.value.specs.Bounds.{second_ticks}
use Rattle.value.specs.declared.DateTime.{DateTime}
use Rattle.value.specs.declared.DayTime.{DayTime}
use Rattle.value.specs.declared.Offset.{Offset}

-- the time of day of a record
unfoldable pub clock_of : DateTime → ℕ
clock_of d = d.second * second_ticks + d.nanosecond

-- the record with a date, a second of the day, a nanosecond and a zone
abbrev pub with_time : Date → ℕ → ℕ → Option Offset → DateTime
with_time e s n z = record { year = e.year; month = e.month; day = e.day; second = s; nanosecond = n; zone = z }

-- the record with a date, a time of day and a zone
abbrev pub at_clock : Date → ℕ → Option Offset → DateTime
at_clock e t z = with_time e (t / second_ticks) (t % second_ticks) z

-- the record with a date, the time of day of another record, and a zone
abbrev pub at_clock_of : Date → DateTime → Option Offset → DateTime
at_clock_of e d z = with_time e d.second d.nanosecond z

-- whether two records have one time of day
unfoldable pub same_clock : DateTime → DateTime → Bool
same_clock a b = both (eqb a.second b.second) (eqb a.nanosecond b.nanosecond)

-- the size of a dayTimeDuration, without its sign
unfoldable pub ticks_in : DayTime → ℕ
ticks_in t = t.seconds * second_ticks + t.nanoseconds

-- the dayTimeDuration with a sign, seconds and nanoseconds
abbrev pub with_size : Bool → ℕ → ℕ → DayTime
with_size negative s n = record { negative = negative; seconds = s; nanoseconds = n }

-- the dayTimeDuration with a sign and a size
abbrev pub duration_of : Bool → ℕ → DayTime
duration_of negative n = with_size negative (n / second_ticks) (n % second_ticks)
