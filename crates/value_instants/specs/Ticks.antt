-- Document 01, "Values and their bounds" and "Operations": local time and UTC instant of a record, in ticks since
-- 0000-01-01T00:00:00, so that none is below zero; and the record at a local time.
use Rattle.std.specs.Prelude.{Bool, ℕ, ◌+◌, ◌-◌, ◌*◌, ◌/◌, ◌%◌, leb, ltb, None, Option, Some}
use Rattle.basis.specs.Choice.{pick, both}
use Rattle.calendar.specs.Calendar.{day_number, date_of}
use Rattle.value.specs.Bounds.{min_year, max_year, minute_ticks, day_ticks}
use Rattle.value.specs.declared.Offset.{Offset}
use Rattle.value.specs.declared.Offset.TheVariants.{East, West}
use Rattle.value.specs.Clocks.{clock_of, at_clock}
use Rattle.value.specs.Durations.{plus_ticks}
use Rattle.value.specs.declared.DateTime.{DateTime}
use Rattle.value.specs.declared.Value.{Value}
use Rattle.value.specs.declared.Value.TheVariants as VV

unfoldable pub local_of : DateTime → ℕ
local_of d = day_number d.year d.month d.day * day_ticks + clock_of d

-- the minutes that an offset is east of UTC, and west of it
abbrev pub east : Offset → ℕ
east (East m) = m
east (West m) = 0

abbrev pub west : Offset → ℕ
west (East m) = 0
west (West m) = m

-- UTC
abbrev pub utc : Offset
utc = East 0

-- the offset of a zone; a value without zone counts in the given one
abbrev pub offset_in : Offset → Option Offset → Offset
offset_in o None = o
offset_in o (Some z) = z

-- the UTC instant of a local time: east of UTC it comes earlier, west of it later
abbrev pub instant_at : ℕ → Offset → ℕ
instant_at t o = t + west o * minute_ticks - east o * minute_ticks

unfoldable pub instant_of : Offset → DateTime → ℕ
instant_of o d = instant_at (local_of d) (offset_in o d.zone)

-- the record with a local time
abbrev pub at_local : ℕ → Option Offset → DateTime
at_local t z = at_clock (date_of (t / day_ticks)) (t % day_ticks) z

-- whether a local time lies within the years
unfoldable pub in_years : ℕ → Bool
in_years t = both (leb min_year (date_of (t / day_ticks)).year) (leb (date_of (t / day_ticks)).year max_year)

-- the record with a local time where that lies within the years, else none
unfoldable pub placed_at : ℕ → Option Offset → Option DateTime
placed_at t z = pick (in_years t) (Some (at_local t z)) None

-- whether the year of a local time passes the last one
unfoldable pub past_years : ℕ → Bool
past_years t = ltb max_year (date_of (t / day_ticks)).year

-- the ticks by which a dayTimeDuration leads forward: its number where that is above zero, else 0; a value of another kind leads
-- nowhere
abbrev pub forward_of : Value → ℕ
forward_of (VV.Moment k d) = 0
forward_of (VV.DayTime t) = plus_ticks t
forward_of (VV.YearMonth m) = 0
