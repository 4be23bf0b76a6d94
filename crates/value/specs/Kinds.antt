-- Document 01, "Values and their bounds": a value is a date, time or dateTime as its kind with its record, or a
-- duration; which values are within their kind's bounds.
use Rattle.std.specs.Prelude.{Bool, [], ◌∷◌, Err, Ok, Result}
use Rattle.basis.specs.Choice.{pick, every}
use Rattle.basis.specs.Answer.{Answer, gives, refuses_for, refuses}
use Rattle.value.specs.Reasons.{reason_of}
use Rattle.value.specs.Refusals.{outside}
use Rattle.value.specs.Values.{ok_date_time, ok_day_time, ok_year_month}
use Rattle.value.specs.Rows.{is_moment, of_kind}
use Rattle.value.specs.declared.Kind.{Kind}
use Rattle.value.specs.declared.Kind.TheVariants as KV
use Rattle.value.specs.declared.Value.{Value}
use Rattle.value.specs.declared.Value.TheVariants as VV
use Rattle.value.specs.declared.Refusal.{Refusal}

abbrev pub kind_of : Value → Kind
kind_of (VV.Moment k d) = k
kind_of (VV.DayTime t) = KV.DayTimeDuration
kind_of (VV.YearMonth m) = KV.YearMonthDuration

-- the values within their kind's bounds: a moment is of no duration's kind, and its record is of its own
unfoldable pub ok_value : Value → Bool
ok_value (VV.Moment k d) = every (is_moment k ∷ ok_date_time d ∷ of_kind k d ∷ [])
ok_value (VV.DayTime t) = ok_day_time t
ok_value (VV.YearMonth m) = ok_year_month m

-- what an answer says: a value, or the number of a refusal
abbrev pub meaning : Result Value Refusal → Answer Value
meaning (Ok v) = gives v
meaning (Err r) = refuses_for (reason_of r)

-- a value that was given, or 16 where it is outside the bounds
unfoldable pub made : Value → Answer Value
made v = pick (ok_value v) (gives v) (refuses outside)
