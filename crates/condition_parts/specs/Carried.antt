-- Carried: a part's sort and what it gives in the mode in which it is read, as functions hand them on. No promise to a
-- caller rests on it: what a condition gives at a row is stated over Evaluation.antt, and that the code comes to the same is
-- proved (`code_meets` in crate `condition_readers`).
use Rattle.std.specs.Prelude.{Bool, List, ℕ}
use Rattle.basis.specs.Choice.{pick}
use Rattle.basis.specs.Answer.{Answer}
use Rattle.value.specs.declared.Kind.{Kind}
use Rattle.value.specs.declared.Offset.{Offset}
use Rattle.timetable.specs.Rows.{Row}
use Rattle.text.specs.Reading.{read_as}
use Rattle.text_fields.specs.Fields.{read_field}
use Rattle.condition_words.specs.Words.{between}
use Rattle.condition_symbols.specs.declared.Op.{Op}
use Rattle.condition_operators.specs.Roles.{role_of, settles}
use Rattle.condition_sorts.specs.Sorts.{sort_two, sort_cast, sort_times}
use Rattle.condition_sorts.specs.declared.Sort.TheVariants.{Of}
use Rattle.condition_givens.specs.Data.{Datum, value, truth}
use Rattle.condition_givens.specs.Carried.{given_of, given_of_text, field_in}
use Rattle.condition_givens.specs.declared.Given.{Given}
use Rattle.condition_givens.specs.declared.Given.TheVariants.{Nothing, Is, Truth, Refused}
use Rattle.condition_givens.specs.declared.Mode.{Mode}
use Rattle.condition_givens.specs.declared.Mode.TheVariants.{Check, Live, Dead}
use Rattle.condition_parts.specs.Evaluation.{applied, cast_datum, times_datum}
use Rattle.condition_parts.specs.declared.Part.{Part}

-- a literal and a field
unfoldable pub literal_part : Mode → Kind → List ℕ → ℕ → ℕ → Part
literal_part m k s from to = record { sort = Of k; given = given_of_text m (read_as k (between s from to)) }

unfoldable pub field_part : Mode → Kind → Row → ℕ → Part
field_part m k row n = record { sort = Of k; given = field_in m (read_field k row n) }

-- one part below: what was not evaluated, and a refusal, stay as they are
abbrev pub onto_given : Given → (Datum → Answer Datum) → Given
onto_given Nothing f = Nothing
onto_given (Is v) f = given_of (f (value v))
onto_given (Truth x) f = given_of (f (truth x))
onto_given (Refused r) f = Refused r

unfoldable pub cast_part : Kind → Part → Part
cast_part k p = record { sort = sort_cast k p.sort; given = onto_given p.given (cast_datum k) }

unfoldable pub times_part : Bool → ℕ → Part → Part
times_part negative n p = record { sort = sort_times p.sort; given = onto_given p.given (times_datum negative n) }

-- two parts with an operator between: the left one's refusal first
abbrev pub refused_given : Given → Given
refused_given Nothing = Nothing
refused_given (Is v) = Nothing
refused_given (Truth y) = Nothing
refused_given (Refused r) = Refused r

abbrev pub two_given : Offset → Op → Given → Given → Given
two_given zone o Nothing b = refused_given b
two_given zone o (Is v) b = onto_given b (applied zone (role_of o) (value v))
two_given zone o (Truth x) b = pick (settles (role_of o) x) (Truth x) (onto_given b (applied zone (role_of o) (truth x)))
two_given zone o (Refused r) b = Refused r

unfoldable pub two_part : Offset → Op → Part → Part → Part
two_part zone o a b = record { sort = sort_two o a.sort b.sort; given = two_given zone o a.given b.given }

-- the mode of the right side: after a left that settles the operator it is not evaluated
abbrev pub right_mode : Mode → Bool → Mode
right_mode Check settled = Check
right_mode Live settled = pick settled Dead Live
right_mode Dead settled = Dead

abbrev pub after_given : Op → Mode → Given → Mode
after_given o m Nothing = m
after_given o m (Is v) = m
after_given o m (Truth x) = right_mode m (settles (role_of o) x)
after_given o m (Refused r) = m

unfoldable pub after_part : Op → Mode → Part → Mode
after_part o m a = after_given o m a.given
