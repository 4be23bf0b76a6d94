-- Answers of equal meaning are equal, so that a contract on the meaning determines the answer.
use Rattle.std.specs.Prelude.{Result, Ok, Err}
use mathlib.Core.Path.{◌≡◌, refl, ap}
use Rattle.basis.specs.Answer.{Answer, gives, refuses_for}
use Rattle.value.specs.Reasons.{refusal_of}
use Rattle.operation_ordering.specs.Order.{Order, less, equal, greater, compared_meaning}
use Rattle.std.specs.declared.cmp.Ordering.{Ordering}
use Rattle.std.specs.declared.cmp.Ordering.TheVariants as V
use Rattle.value.specs.declared.Refusal.{Refusal}

abbrev compared_of : Answer Order → Result Ordering Refusal
compared_of (gives less) = Ok V.Less
compared_of (gives equal) = Ok V.Equal
compared_of (gives greater) = Ok V.Greater
compared_of (refuses_for r) = Err (refusal_of r)

compared_back : (a : Result Ordering Refusal) → compared_of (compared_meaning a) ≡ a
compared_back (Ok V.Less) = refl
compared_back (Ok V.Equal) = refl
compared_back (Ok V.Greater) = refl
compared_back (Err r) = refl

pub compared_determined : (a b : Result Ordering Refusal) → compared_meaning a ≡ compared_meaning b → a ≡ b
compared_determined a b e = cc (ap compared_of e, compared_back a, compared_back b)
