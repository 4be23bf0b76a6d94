-- Carried: what a part that was read says, in place of a tree: of its literals where it was checked, of the row where it
-- was evaluated. No promise to a caller rests on it.
use Rattle.basis.specs.Choice.{pick}
use Rattle.basis.specs.Answer.{Answer, gives, refuses_for, only_number}
use Rattle.value.specs.Reasons.{reason_of}
use Rattle.value.specs.Refusals.{wrong_kind}
use Rattle.condition_givens.specs.declared.Given.{Given}
use Rattle.condition_givens.specs.declared.Given.TheVariants.{Nothing, Is, Truth, Refused}
use Rattle.condition.specs.Condition.{Result, hit, miss, unreadable}

unfoldable pub literals : Given → Answer (Unit {0})
literals Nothing = gives tt
literals (Is v) = gives tt
literals (Truth x) = gives tt
literals (Refused r) = refuses_for (reason_of r)

unfoldable pub resulting : Given → Result
resulting Nothing = unreadable (only_number wrong_kind)
resulting (Is v) = unreadable (only_number wrong_kind)
resulting (Truth x) = pick x hit miss
resulting (Refused r) = unreadable (reason_of r)
