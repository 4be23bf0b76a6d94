-- Document 01, "Operations" and refusal 4: a result is the value, or 4 where it is beyond its kind's bounds.
use Rattle.std.specs.Prelude.{ℕ, None, Option, Some}
use Rattle.basis.specs.Choice.{pick}
use Rattle.basis.specs.Answer.{Answer, gives, refuses}
use Rattle.value.specs.Refusals.{beyond_result}
use Rattle.value.specs.Values.{ok_day_time, ok_year_month}
use Rattle.value.specs.Durations.{less_ticks, less_months}
use Rattle.value.specs.Rows.{kept}
use Rattle.value_instants.specs.Ticks.{placed_at}
use Rattle.value.specs.declared.Kind.{Kind}
use Rattle.value.specs.declared.Value.{Value}
use Rattle.value.specs.declared.Value.TheVariants as VV
use Rattle.value.specs.declared.DateTime.{DateTime}
use Rattle.value.specs.declared.Offset.{Offset}

-- the dayTimeDuration of p - q ticks, and the yearMonthDuration of p - q months
unfoldable pub in_ticks : ℕ → ℕ → Answer Value
in_ticks p q = pick (ok_day_time (less_ticks p q)) (gives (VV.DayTime (less_ticks p q))) (refuses beyond_result)

unfoldable pub in_months : ℕ → ℕ → Answer Value
in_months p q = pick (ok_year_month (less_months p q)) (gives (VV.YearMonth (less_months p q))) (refuses beyond_result)

-- what a kind keeps of the record with a local time
abbrev pub of_placed : Kind → Option DateTime → Answer Value
of_placed k (Some d) = gives (VV.Moment k (kept k d))
of_placed k None = refuses beyond_result

unfoldable pub at_ticks : Kind → ℕ → Option Offset → Answer Value
at_ticks k t z = of_placed k (placed_at t z)
