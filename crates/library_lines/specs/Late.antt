-- docs/LINES.md, "Library example", `late`: "the second value less the first is computed .. then compared with D".
use Rattle.std.specs.Prelude.{Bool, true, false, Result, Ok, Err}
use Rattle.basis.specs.Answer.{Answer, gives, refuses_for}
use Rattle.value_instants.specs.Ticks.{utc}
use Rattle.operation_ordering.specs.Order.{Order, less, equal, greater, order_in}
use Rattle.operation_arithmetic.specs.Sums.{minus_in}
use Rattle.value.specs.Reasons.{reason_of}
use Rattle.value.specs.declared.Value.{Value}
use Rattle.value.specs.declared.Refusal.{Refusal}

-- what an answer says: whether it is late, or the number of a refusal
abbrev pub lateness_meaning : Result Bool Refusal → Answer Bool
lateness_meaning (Ok late) = gives late
lateness_meaning (Err r) = refuses_for (reason_of r)

-- late where the delay is greater than what is allowed
abbrev pub whether : Answer Order → Answer Bool
whether (gives less) = gives false
whether (gives equal) = gives false
whether (gives greater) = gives true
whether (refuses_for r) = refuses_for r

abbrev pub delayed : Value → Answer Value → Answer Bool
delayed allowed (gives delay) = whether (order_in utc delay allowed)
delayed allowed (refuses_for r) = refuses_for r

unfoldable pub late_of : Value → Value → Value → Answer Bool
late_of planned actual allowed = delayed allowed (minus_in utc actual planned)
