-- Document 01, "Reading text": what the text of a date, a time or a dateTime reads as. Its parts are found first (crate
-- `text_scan`); then the checks are made in document 01's order, across the whole text. Each check hands on to the next, so that
-- they stand here from the last to the first; `judge` is where they begin.
use Rattle.std.specs.Prelude.{Bool, true, [], ◌∷◌, ℕ, ◌+◌, ◌*◌, eqb, leb, None, Option, Some}
use Prim.Native.Char.{code}
use Rattle.basis.specs.Choice.{pick, every}
use Rattle.basis.specs.Answer.{Answer, gives, refuses}
use Rattle.calendar.specs.Calendar.{day_of, dated_of}
use Rattle.calendar.specs.declared.Date.{Date}
use Rattle.value.specs.Bounds.{max_year, max_zone, second_ticks, hour_minutes, day_hours, minute_ticks, hour_ticks}
use Rattle.value.specs.Clocks.{at_clock}
use Rattle.value.specs.Refusals.{bad_text, beyond_bounds, long_fraction}
use Rattle.value.specs.Values.{ok_date}
use Rattle.value.specs.Rows.{has_part}
use Rattle.value.specs.declared.Offset.{Offset}
use Rattle.value.specs.declared.Offset.TheVariants.{East, West}
use Rattle.value.specs.declared.Kind.{Kind}
use Rattle.value.specs.declared.Value.{Value}
use Rattle.value.specs.declared.Value.TheVariants as VV
use Rattle.text_scan.specs.declared.FoundDate.{FoundDate}
use Rattle.text_scan.specs.declared.FoundClock.{FoundClock}
use Rattle.text_scan.specs.declared.FoundZone.{FoundZone}
use Rattle.text_scan.specs.Scanning.{Scan}

-- 5. That next day is in a year beyond the bounds: 2.
abbrev pub start_of_day : Kind → Option Offset → Option Date → Answer Value
start_of_day k z (Some d) = gives (VV.Moment k (at_clock d 0 z))
start_of_day k z None = refuses beyond_bounds

-- hour 24 is 00:00:00 of the next day; a kind that has no day, as time, has none to move
unfoldable pub next_day : Kind → Date → Option Offset → Answer Value
next_day k d z = pick (has_part k (code "D")) (start_of_day k z (dated_of (day_of d + 1) max_year)) (gives (VV.Moment k (at_clock d 0 z)))

abbrev pub day_end : ℕ
day_end = day_hours

unfoldable pub clock_ticks : FoundClock → ℕ
clock_ticks c = c.hour * hour_ticks + c.minute * minute_ticks + c.second * second_ticks + c.part

-- a date, a clock and a zone that passed check 4
unfoldable pub clocked : Kind → Date → FoundClock → Option Offset → Answer Value
clocked k d c z = pick (eqb c.hour day_end) (next_day k d z) (gives (VV.Moment k (at_clock d (clock_ticks c) z)))

-- 4. Calendar and clock, in the order of the text: month, day, hour, minute, second, zone. Hour to 23, minute and
-- second to 59; hour 24 is good only with zero minutes, seconds and fraction.
abbrev pub max_hour : ℕ
max_hour = 23

abbrev pub max_minute : ℕ
max_minute = 59

unfoldable pub ok_clock : FoundClock → Bool
ok_clock c = every (leb c.hour max_hour ∷ leb c.minute max_minute ∷ leb c.second max_minute ∷ [])

unfoldable pub is_day_end : FoundClock → Bool
is_day_end c = every (eqb c.hour day_end ∷ eqb c.minute 0 ∷ eqb c.second 0 ∷ eqb c.part 0 ∷ [])

unfoldable pub good_clock : FoundClock → Bool
good_clock c = pick (ok_clock c) true (is_day_end c)

-- zone hours to 13 with minutes to 59, or 14:00; -00:00 is zone 0
abbrev pub offset_minutes : FoundZone → ℕ
offset_minutes z = z.hours * hour_minutes + z.minutes

unfoldable pub ok_parts : FoundZone → Bool
ok_parts z = every (leb z.minutes max_minute ∷ leb (offset_minutes z) max_zone ∷ [])

abbrev pub offset_is : ℕ → ℕ → Offset
offset_is sign n = pick (eqb sign (code "-")) (pick (eqb n 0) (East 0) (West n)) (East n)

unfoldable pub zone_is : FoundZone → Option Offset
zone_is z = pick (eqb z.sign 0) None (Some (offset_is z.sign (offset_minutes z)))

-- the day that a date names
abbrev pub day_found : FoundDate → Date
day_found d = record { year = d.year; month = d.month; day = d.day }

unfoldable pub on_calendar : Kind → FoundDate → FoundClock → FoundZone → Answer Value
on_calendar k d c z =
    pick (ok_date d.year d.month d.day)
    (pick (good_clock c) (pick (ok_parts z) (clocked k (day_found d) c (zone_is z)) (refuses bad_text)) (refuses bad_text))
    (refuses bad_text)

-- 2. More than nine fraction digits (document 02, e): 3. 3. Year negative or above the greatest: 2.
unfoldable pub bounded : FoundDate → FoundClock → Answer Value → Answer Value
bounded d c rest =
    pick c.long (refuses long_fraction) (pick d.negative (refuses beyond_bounds) (pick (leb d.year max_year) rest (refuses beyond_bounds)))

-- 1. Shape: every part was found, and the text ends with the last.
unfoldable pub judge : Kind → ℕ → Scan → Answer Value
judge k n t =
    pick t.good (pick (eqb t.at n) (bounded t.date t.clock (on_calendar k t.date t.clock t.zone)) (refuses bad_text)) (refuses bad_text)
