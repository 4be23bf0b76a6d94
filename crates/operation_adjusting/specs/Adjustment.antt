-- Document 01, "Operations", adjustment to a zone Z given as a dayTimeDuration: a value without zone gets Z; one with a
-- zone keeps its instant (a date from its 00:00:00, then its date; a time on 1972-12-31, then its time). With no Z, the
-- zone is removed and local fields stay.
use Rattle.std.specs.Prelude.{Bool, ℕ, ◌+◌, ◌-◌, ◌*◌, ◌/◌, ◌%◌, eqb, leb, None, Option, Some}
use Rattle.basis.specs.Choice.{pick, both}
use Rattle.basis.specs.Answer.{Answer, gives, refuses}
use Rattle.value.specs.Bounds.{max_zone, minute_ticks}
use Rattle.value.specs.Clocks.{at_clock_of, ticks_in}
use Rattle.value.specs.Refusals.{bad_zone, wrong_kind, outside}
use Rattle.value.specs.Values.{date_in}
use Rattle.value.specs.Kinds.{ok_value}
use Rattle.value_instants.specs.Ticks.{local_of, instant_at, east, west}
use Rattle.value.specs.declared.Offset.{Offset}
use Rattle.value.specs.declared.Offset.TheVariants.{East, West}
use Rattle.value.specs.declared.DateTime.{DateTime}
use Rattle.value.specs.declared.DayTime as D
use Rattle.value.specs.declared.Kind.{Kind}
use Rattle.value.specs.declared.Value.{Value}
use Rattle.value.specs.declared.Value.TheVariants.{Moment, DayTime, YearMonth}
use Rattle.operation_quantities.specs.Results.{at_ticks}

-- Z is a number of whole minutes, within 14 hours
unfoldable pub is_zone : D.DayTime → Bool
is_zone z = both (eqb (ticks_in z % minute_ticks) 0) (leb (ticks_in z / minute_ticks) max_zone)

abbrev pub zone_of : D.DayTime → Offset
zone_of z = pick z.negative (West (ticks_in z / minute_ticks)) (East (ticks_in z / minute_ticks))

-- the local time of an instant: east of UTC it is later, west of it earlier
abbrev pub local_at : ℕ → Offset → ℕ
local_at i o = i + east o * minute_ticks - west o * minute_ticks

-- the record with its local fields, in another zone or in none
abbrev pub with_zone : DateTime → Option Offset → DateTime
with_zone d z = at_clock_of (date_in d) d z

unfoldable pub adjusted_from : Kind → DateTime → Option Offset → Offset → Answer Value
adjusted_from k d None z = gives (Moment k (with_zone d (Some z)))
adjusted_from k d (Some w) z = at_ticks k (local_at (instant_at (local_of d) w) z) (Some z)

abbrev pub adjusted_to : Kind → DateTime → D.DayTime → Answer Value
adjusted_to k d z = pick (is_zone z) (adjusted_from k d d.zone (zone_of z)) (refuses bad_zone)

-- Z is a dayTimeDuration, and what is adjusted is none of the durations
unfoldable pub moment_to : Kind → DateTime → Value → Answer Value
moment_to k d (Moment j e) = refuses wrong_kind
moment_to k d (DayTime z) = adjusted_to k d z
moment_to k d (YearMonth m) = refuses wrong_kind

unfoldable pub value_to : Value → Value → Answer Value
value_to (Moment k d) z = moment_to k d z
value_to (DayTime t) z = refuses wrong_kind
value_to (YearMonth m) z = refuses wrong_kind

unfoldable pub adjust_of : Value → Value → Answer Value
adjust_of a z = pick (both (ok_value a) (ok_value z)) (value_to a z) (refuses outside)

unfoldable pub without_zone : Value → Answer Value
without_zone (Moment k d) = gives (Moment k (with_zone d None))
without_zone (DayTime t) = refuses wrong_kind
without_zone (YearMonth m) = refuses wrong_kind

unfoldable pub unzone_of : Value → Answer Value
unzone_of a = pick (ok_value a) (without_zone a) (refuses outside)
