-- Carried: what a part gives in the mode in which it is read: nothing where it is not evaluated, and where it is only
-- checked the leftmost refusal of a literal in it, or nothing. No promise to a caller rests on it.
use Rattle.basis.specs.Answer.{Answer, gives, refuses_for}
use Rattle.value.specs.Reasons.{refusal_of}
use Rattle.value.specs.declared.Value.{Value}
use Rattle.condition_givens.specs.Data.{Datum, value, truth, valued}
use Rattle.condition_givens.specs.declared.Given.{Given}
use Rattle.condition_givens.specs.declared.Given.TheVariants.{Nothing, Is, Truth, Refused}
use Rattle.condition_givens.specs.declared.Mode.{Mode}
use Rattle.condition_givens.specs.declared.Mode.TheVariants.{Check, Live, Dead}

abbrev pub given_of : Answer Datum → Given
given_of (gives (value v)) = Is v
given_of (gives (truth x)) = Truth x
given_of (refuses_for r) = Refused (refusal_of r)

-- a text that is only checked
abbrev pub bad_of : {A : Type 0} → Answer A → Given
bad_of (gives v) = Nothing
bad_of (refuses_for r) = Refused (refusal_of r)

-- a literal and a field, by the mode
abbrev pub given_of_text : Mode → Answer Value → Given
given_of_text Check a = bad_of a
given_of_text Live a = given_of (valued a)
given_of_text Dead a = Nothing

abbrev pub field_in : Mode → Answer Value → Given
field_in Check a = Nothing
field_in Live a = given_of (valued a)
field_in Dead a = Nothing
