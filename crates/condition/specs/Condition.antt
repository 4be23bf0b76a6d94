-- Document 01, "Conditions" and "Refusal numbers": which texts Open accepts, "7 by length, 8, 7 by grammar, 9, the leftmost
-- bad literal's own number", and the result of a condition at a row, in the zone that values without one count in. `parse` gives the
-- tree that the productions of crate condition_grammar derive (Laws.antt).
use Rattle.std.specs.Prelude.{ℕ, Bool, true, false, List, length, leb, Err, Ok}
use Rattle.std.specs.Prelude as std
use Rattle.basis.specs.Choice.{pick, both}
use Rattle.basis.specs.Answer.{Reason, Answer, gives, refuses_for, only_number, refuses}
use Rattle.value.specs.Reasons.{reason_of}
use Rattle.value.specs.Refusals.{bad_condition, too_deep, wrong_kind}
use Rattle.value.specs.declared.Offset.{Offset}
use Rattle.value_instants.specs.Ticks.{utc}
use Rattle.timetable.specs.Rows.{Row, row_of}
use Rattle.condition_depth.specs.Depth.{deep}
use Rattle.condition_givens.specs.Data.{Datum, value, truth}
use Rattle.condition_sorts.specs.declared.Sort.{Sort}
use Rattle.condition_sorts.specs.declared.Sort.TheVariants as S
use Rattle.condition_grammar.specs.Grammar.{Parsed, none, got}
use Rattle.condition_grammar.specs.Trees.{Tree, parse}
use Rattle.condition_readers.specs.Lengths.{parse_within}
pub use Rattle.condition_readers.specs.Lengths.{min_length, max_length}
use Rattle.condition_readers.specs.Meaning.{sort_of, first, first_bad, eval}
use Rattle.condition.specs.declared.Judged.{Judged}
use Rattle.condition.specs.declared.Judged.TheVariants as J
use Rattle.value.specs.declared.Refusal.{Refusal}

-- whether an answer is no refusal
unfoldable pub passes : Answer (Unit {0}) → Bool
passes (gives x) = true
passes (refuses_for r) = false

-- "the whole condition need[s] truth values"
unfoldable pub by_kinds : Sort → Answer (Unit {0})
by_kinds S.Clash = refuses wrong_kind
by_kinds S.Truth = gives tt
by_kinds (S.Of k) = refuses wrong_kind

-- "7 by grammar, 9, the leftmost bad literal's own number"
unfoldable pub by_tree : List ℕ → Parsed Tree → Answer (Unit {0})
by_tree s none = refuses bad_condition
by_tree s (got t n) = first (by_kinds (sort_of t)) (first_bad s t)

unfoldable pub check_of : List ℕ → Answer (Unit {0})
check_of s =
    pick (both (leb min_length (length s)) (leb (length s) max_length)) (pick (deep s) (refuses too_deep) (by_tree s (parse s))) (refuses bad_condition)

-- what an answer says: that the condition is accepted, or the number of a refusal
abbrev pub checked : std.Result Unit Refusal → Answer (Unit {0})
checked (Ok tt) = gives tt
checked (Err r) = refuses_for (reason_of r)

-- a condition that passes Open's checks
unfoldable pub accepted : List ℕ → Bool
accepted s = passes (check_of s)

-- a result at a row: "Hit, Miss or Unreadable (with a number)"
pub data Result : Type 0 where
  hit : Result
  miss : Result
  unreadable : Reason → Result

-- "A refusal in an evaluated part is the line's result." No accepted condition gives a value.
unfoldable pub as_result : Answer Datum → Result
as_result (gives (value v)) = unreadable (only_number wrong_kind)
as_result (gives (truth x)) = pick x hit miss
as_result (refuses_for r) = unreadable r

unfoldable pub of_tree : Offset → List ℕ → Row → Parsed Tree → Result
of_tree zone s row none = unreadable (only_number bad_condition)
of_tree zone s row (got t n) = as_result (eval zone s row t)

-- the result of a condition at a row, in a zone; Unreadable with 7 of a text that is none by its length, depth or grammar, which Open does not
-- accept
unfoldable pub result_at : Offset → List ℕ → Row → Result
result_at zone s row = of_tree zone s row (parse_within s)

-- the result of any text at a line as it stands, in UTC: Open's number where the text is not accepted
unfoldable pub if_accepted : Answer (Unit {0}) → Result → Answer Result
if_accepted (gives x) v = gives v
if_accepted (refuses_for r) v = refuses_for r

unfoldable pub result_of : List ℕ → List ℕ → Answer Result
result_of s line = if_accepted (check_of s) (result_at utc s (row_of line))

-- what a judgement says
abbrev pub judged : Judged → Result
judged J.Hit = hit
judged J.Miss = miss
judged (J.Unreadable r) = unreadable (reason_of r)

-- what an answer says: a judgement, or Open's number
abbrev pub result_said : std.Result Judged Refusal → Answer Result
result_said (Ok j) = gives (judged j)
result_said (Err r) = refuses_for (reason_of r)
