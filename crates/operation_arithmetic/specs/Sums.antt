-- Document 01, "Operations": dates, times and dateTimes plus and minus durations, their differences, and sums and
-- differences of durations of one kind.
use Rattle.std.specs.Prelude.{◌+◌}
use Rattle.basis.specs.Choice.{pick, both}
use Rattle.basis.specs.Answer.{Answer, refuses}
use Rattle.value.specs.Refusals.{wrong_kind, outside}
use Rattle.value.specs.Durations.{plus_half, minus_half, plus_ticks, minus_ticks, less_ticks, less_months}
use Rattle.value.specs.Values.{ok_offset}
use Rattle.value.specs.Rows.{same_kind}
use Rattle.value.specs.Kinds.{ok_value}
use Rattle.value_instants.specs.Ticks.{instant_of}
use Rattle.value.specs.declared.Offset.{Offset}
use Rattle.value.specs.declared.DateTime.{DateTime}
use Rattle.value.specs.declared.DayTime as D
use Rattle.value.specs.declared.YearMonth as Y
use Rattle.value.specs.declared.Kind.{Kind}
use Rattle.value.specs.declared.Value.{Value}
use Rattle.value.specs.declared.Value.TheVariants.{Moment, DayTime, YearMonth}
use Rattle.operation_quantities.specs.Results.{in_ticks, in_months}
use Rattle.operation_shifting.specs.Shifts.{shifted_by, moved_by}

-- a duration may stand left of plus before a date, time or dateTime; durations of one kind add
unfoldable pub sum_of : Value → Value → Answer Value
sum_of (Moment k d) (DayTime t) = shifted_by k d t
sum_of (Moment k d) (YearMonth m) = moved_by k d m
sum_of (Moment k d) (Moment j e) = refuses wrong_kind
sum_of (DayTime t) (Moment k d) = shifted_by k d t
sum_of (DayTime t) (DayTime s) = in_ticks (plus_ticks t + plus_ticks s) (minus_ticks t + minus_ticks s)
sum_of (DayTime t) (YearMonth m) = refuses wrong_kind
sum_of (YearMonth m) (Moment k d) = moved_by k d m
sum_of (YearMonth m) (DayTime t) = refuses wrong_kind
sum_of (YearMonth m) (YearMonth n) =
    in_months
    (plus_half m.negative m.months + plus_half n.negative n.months)
    (minus_half m.negative m.months + minus_half n.negative n.months)

unfoldable pub plus_of : Value → Value → Answer Value
plus_of a b = pick (both (ok_value a) (ok_value b)) (sum_of a b) (refuses outside)

-- the opposite of p - q is q - p
abbrev pub opposite : D.DayTime → D.DayTime
opposite t = less_ticks (minus_ticks t) (plus_ticks t)

abbrev pub opposite_months : Y.YearMonth → Y.YearMonth
opposite_months m = less_months (minus_half m.negative m.months) (plus_half m.negative m.months)

-- dateTime - dateTime, date - date, time - time: a dayTimeDuration between the instants used for order.
-- A duration may not stand left of minus before a date, time or dateTime.
unfoldable pub less_moment : Offset → Value → Kind → DateTime → Answer Value
less_moment o (Moment j d) k e = pick (same_kind j k) (in_ticks (instant_of o d) (instant_of o e)) (refuses wrong_kind)
less_moment o (DayTime t) k e = refuses wrong_kind
less_moment o (YearMonth m) k e = refuses wrong_kind

unfoldable pub difference_in : Offset → Value → Value → Answer Value
difference_in o x (Moment k e) = less_moment o x k e
difference_in o x (DayTime t) = sum_of x (DayTime (opposite t))
difference_in o x (YearMonth m) = sum_of x (YearMonth (opposite_months m))

unfoldable pub minus_in : Offset → Value → Value → Answer Value
minus_in o a b = pick (both (ok_value a) (ok_value b)) (difference_in o a b) (refuses outside)

-- in any zone: one beyond its bounds is 16
unfoldable pub minus_for : Offset → Value → Value → Answer Value
minus_for zone a b = pick (ok_offset zone) (minus_in zone a b) (refuses outside)
