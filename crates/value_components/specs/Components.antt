-- Document 01, "Operations", components for library callers: each field and the zone, or that there is none; of a
-- duration its normalised parts, none above zero if it is negative. F&O 10.5. Which fields there are is said by the
-- letters of the kind's layout.
use Rattle.std.specs.Prelude.{Bool, true, false, ℕ, ◌/◌, ◌%◌, ℤ, pos, neg_ℤ, None, Option, Some, Result, Ok, Err}
use Rattle.basis.specs.Choice.{pick}
use Rattle.basis.specs.Answer.{Answer, gives, refuses_for, refuses}
use Rattle.calendar.specs.Calendar.{month_count}
use Rattle.value.specs.Reasons.{reason_of}
use Rattle.value.specs.Bounds.{second_ticks, minute_seconds, hour_minutes, day_hours, minute_ticks, hour_ticks, day_ticks}
use Rattle.value.specs.Refusals.{outside}
use Rattle.value.specs.Clocks.{clock_of, ticks_in}
use Rattle.value.specs.Rows.{own_parts}
use Rattle.value.specs.Kinds.{ok_value}
use Rattle.value.specs.declared.DateTime.{DateTime}
use Rattle.value.specs.declared.Kind.{Kind}
use Rattle.value_components.specs.declared.Clock.{Clock}
use Rattle.value_components.specs.declared.OwnFields.{OwnFields}
use Rattle.value_components.specs.declared.Lasting.{Lasting}
use Rattle.value.specs.declared.Value.{Value}
use Rattle.value.specs.declared.Value.TheVariants as VV
use Rattle.value_components.specs.declared.Components.{Components}
use Rattle.value_components.specs.declared.Components.TheVariants as CV
use Rattle.value.specs.declared.Refusal.{Refusal}

-- the parts of a value: the fields that its kind has, and the zone; of either duration kind all six
pub data ComponentParts : Type 0 where
  of_moment : OwnFields → ComponentParts
  of_duration : Lasting → ComponentParts

-- the parts that the code's record says
abbrev pub parts_said : Components → ComponentParts
parts_said (CV.Moment f) = of_moment f
parts_said (CV.Duration l) = of_duration l

-- what an answer says: the parts, or the number of a refusal
abbrev pub components_meaning : Result Components Refusal → Answer ComponentParts
components_meaning (Ok x) = gives (parts_said x)
components_meaning (Err r) = refuses_for (reason_of r)

-- hours, minutes, seconds and the part of a second
abbrev pub clock_in : ℕ → Clock
clock_in t = record { hours = t / hour_ticks; minutes = t / minute_ticks % hour_minutes; seconds = t / second_ticks % minute_seconds; part = t % second_ticks }

-- a field that a kind has, or that it has none
abbrev pub date_field : Bool → ℕ → Option ℕ
date_field own n = pick own (Some n) None

abbrev pub clock_field : Bool → Clock → Option Clock
clock_field own c = pick own (Some c) None

-- the fields of a record that a kind has, and the zone
abbrev pub fields_in : Kind → DateTime → OwnFields
fields_in k d =
    record {
      year = date_field (own_parts k).year d.year;
      month = date_field (own_parts k).month d.month;
      day = date_field (own_parts k).day d.day;
      clock = clock_field (own_parts k).clock (clock_in (clock_of d));
      zone = d.zone;
    }

-- a number with a duration's sign
abbrev pub signed_number : Bool → ℕ → ℤ
signed_number true n = neg_ℤ (pos n)
signed_number false n = pos n

-- a number of months and a number of ticks under one sign, normalised
abbrev pub lasting : Bool → ℕ → ℕ → Lasting
lasting negative months ticks =
    record {
      years = signed_number negative (months / month_count);
      months = signed_number negative (months % month_count);
      days = signed_number negative (ticks / day_ticks);
      hours = signed_number negative (ticks / hour_ticks % day_hours);
      minutes = signed_number negative (ticks / minute_ticks % hour_minutes);
      seconds = signed_number negative (ticks / second_ticks % minute_seconds);
      part = signed_number negative (ticks % second_ticks);
    }

abbrev pub parts_of : Value → ComponentParts
parts_of (VV.Moment k d) = of_moment (fields_in k d)
parts_of (VV.DayTime d) = of_duration (lasting d.negative 0 (ticks_in d))
parts_of (VV.YearMonth d) = of_duration (lasting d.negative d.months 0)

unfoldable pub components_of : Value → Answer ComponentParts
components_of v = pick (ok_value v) (gives (parts_of v)) (refuses outside)
