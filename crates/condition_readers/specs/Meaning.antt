-- Document 01, "Conditions": what a tree means: the sort that the text alone settles, the leftmost bad literal, and what the tree gives
-- at a row, in the zone that values without one count in.
use Rattle.std.specs.Prelude.{ℕ, List}
use Rattle.basis.specs.Answer.{Answer, gives, refuses_for, and_then}
use Rattle.value.specs.declared.Offset.{Offset}
use Rattle.timetable.specs.Rows.{Row}
use Rattle.text.specs.Reading.{read_as}
use Rattle.text_fields.specs.Fields.{read_field}
use Rattle.condition_words.specs.Words.{between}
use Rattle.condition_sorts.specs.Sorts.{sort_two, sort_cast, sort_times}
use Rattle.condition_givens.specs.Data.{Datum, valued}
use Rattle.condition_parts.specs.Evaluation.{joined, cast_datum, times_datum}
use Rattle.condition_sorts.specs.declared.Sort.{Sort}
use Rattle.condition_sorts.specs.declared.Sort.TheVariants as S
use Rattle.condition_grammar.specs.Trees.{Tree, leaf, one, two, literal, field, cast, times}

-- "Kinds are settled by the text alone."
unfoldable pub sort_of : Tree → Sort
sort_of (leaf k w l) = S.Of k
sort_of (one (cast k) p t) = sort_cast k (sort_of t)
sort_of (one (times negative n) p t) = sort_times (sort_of t)
sort_of (two o b p l r) = sort_two o (sort_of l) (sort_of r)

-- the leftmost bad literal's own number, or that there is none
unfoldable pub fits : {A : Type 0} → Answer A → Answer (Unit {0})
fits (gives v) = gives tt
fits (refuses_for r) = refuses_for r

unfoldable pub first : Answer (Unit {0}) → Answer (Unit {0}) → Answer (Unit {0})
first (gives x) b = b
first (refuses_for r) b = refuses_for r

unfoldable pub first_bad : List ℕ → Tree → Answer (Unit {0})
first_bad s (leaf k w (literal from to)) = fits (read_as k (between s from to))
first_bad s (leaf k w (field n p)) = gives tt
first_bad s (one o p t) = first_bad s t
first_bad s (two o b p l r) = first (first_bad s l) (first_bad s r)

-- what a tree gives at a row: "Evaluation goes left to right .. up to the first refusal."
unfoldable pub eval : Offset → List ℕ → Row → Tree → Answer Datum
eval zone s row (leaf k w (literal from to)) = valued (read_as k (between s from to))
eval zone s row (leaf k w (field n p)) = valued (read_field k row n)
eval zone s row (one (cast k) p t) = and_then (eval zone s row t) (cast_datum k)
eval zone s row (one (times negative n) p t) = and_then (eval zone s row t) (times_datum negative n)
eval zone s row (two o b p l r) = joined zone o (eval zone s row l) (eval zone s row r)
