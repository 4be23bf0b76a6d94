-- Document 01, "Conditions": "Evaluation goes left to right; the right side of `or` after a true left, and of `and` after a
-- false left, isn't evaluated; all else is, up to the first refusal." What an operator gives of what its sides give: a value or a
-- truth value, or the first refusal. Kinds that do not fit are 9; an accepted condition has none. Values without zone count in the zone
-- given.
use Rattle.std.specs.Prelude.{◌≡◌, Bool, true, false, ℕ}
use Rattle.basis.specs.Choice.{pick}
use Rattle.basis.specs.Answer.{Reason, Answer, gives, refuses_for, refuses, and_then}
use Rattle.value.specs.Refusals.{wrong_kind}
use Rattle.value.specs.declared.Offset.{Offset}
use Rattle.value.specs.declared.Kind.{Kind}
use Rattle.value.specs.declared.Value.{Value}
use Rattle.operation_ordering.specs.Order.{Order, less, equal, greater, order_for}
use Rattle.operation_arithmetic.specs.Sums.{plus_of, minus_for}
use Rattle.operation_arithmetic.specs.Products.{times_of}
use Rattle.operation_casting.specs.Casts.{cast_of}
use Rattle.condition_symbols.specs.declared.Op.{Op}
use Rattle.condition_symbols.specs.declared.Op.TheVariants as O
use Rattle.condition_operators.specs.Roles.{role_of, joins, settles}
use Rattle.condition_operators.specs.declared.Role.{Role}
use Rattle.condition_operators.specs.declared.Role.TheVariants.{Joins, Compares, Adds, Subtracts}
use Rattle.condition_givens.specs.Data.{Datum, value, truth, valued}

-- whether a comparison holds, by what it says of a left value that is less (l), equal (e) or greater (g)
abbrev pub holds : Bool → Bool → Bool → Order → Bool
holds l e g less = l
holds l e g equal = e
holds l e g greater = g

-- what a comparison gives of the order that was answered
abbrev pub tested : Bool → Bool → Bool → Answer Order → Answer Datum
tested l e g (gives x) = gives (truth (holds l e g x))
tested l e g (refuses_for r) = refuses_for r

-- an operator between two values, by what it does
abbrev pub of_values : Offset → Role → Value → Value → Answer Datum
of_values zone (Joins by) a b = refuses wrong_kind
of_values zone (Compares l e g) a b = tested l e g (order_for zone a b)
of_values zone Adds a b = valued (plus_of a b)
of_values zone Subtracts a b = valued (minus_for zone a b)

-- an operator between two sides that were evaluated; of `or` and `and` the right side then decides
abbrev pub applied : Offset → Role → Datum → Datum → Answer Datum
applied zone r (value a) (value b) = of_values zone r a b
applied zone r (value a) (truth y) = refuses wrong_kind
applied zone r (truth x) (value b) = refuses wrong_kind
applied zone r (truth x) (truth y) = pick (joins r) (gives (truth y)) (refuses wrong_kind)

-- whether the left side leaves the right one without evaluation
abbrev pub settled : Role → Datum → Bool
settled r (value a) = false
settled r (truth x) = settles r x

-- left to right, up to the first refusal
unfoldable pub joined : Offset → Op → Answer Datum → Answer Datum → Answer Datum
joined zone o a b = and_then a (λ x. pick (settled (role_of o) x) (gives x) (and_then b (applied zone (role_of o) x)))

-- "the right side of `or` after a true left, and of `and` after a false left, isn't evaluated": whatever it is, a refusal too, the
-- result stays. "all else is, up to the first refusal": after any other left the right side decides, and a refusal on the left comes
-- first. It is proved as `short_circuit`, for every zone.
pub record ShortCircuit (zone : Offset) : Type 0 where
  pub or_true : (right : Answer Datum) → joined zone O.Or (gives (truth true)) right ≡ gives (truth true)
  pub and_false : (right : Answer Datum) → joined zone O.And (gives (truth false)) right ≡ gives (truth false)
  pub or_false : (y : Bool) → joined zone O.Or (gives (truth false)) (gives (truth y)) ≡ gives (truth y)
  pub and_true : (y : Bool) → joined zone O.And (gives (truth true)) (gives (truth y)) ≡ gives (truth y)
  pub or_refused : (why : Reason) → joined zone O.Or (gives (truth false)) (refuses_for why) ≡ refuses_for why
  pub and_refused : (why : Reason) → joined zone O.And (gives (truth true)) (refuses_for why) ≡ refuses_for why
  pub left_first : (o : Op) (why : Reason) (right : Answer Datum) → joined zone o (refuses_for why) right ≡ refuses_for why

-- a sum that is cast, and a term times a whole number
abbrev pub cast_datum : Kind → Datum → Answer Datum
cast_datum k (value a) = valued (cast_of a k)
cast_datum k (truth x) = refuses wrong_kind

abbrev pub times_datum : Bool → ℕ → Datum → Answer Datum
times_datum negative n (value a) = valued (times_of a negative n)
times_datum negative n (truth x) = refuses wrong_kind
