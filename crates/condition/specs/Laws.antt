-- What follows from the definitions of Condition.antt: that the one tree which the productions derive decides, which numbers Open's
-- checks and a result can have, and on what of a row the result depends.
use Rattle.std.specs.Prelude.{◌≡◌, Bool, true, false, List, ℕ, ◌≤◌, eqb, length}
use Rattle.basis.specs.Choice.{pick}
use Rattle.basis.specs.Answer.{Reason, gives, refuses_for, refuses}
use Rattle.basis.specs.Exactly.{Exactly}
use Rattle.value.specs.Refusals.{no_field, bad_condition, too_deep, wrong_kind}
use Rattle.value.specs.Values.{ok_offset}
use Rattle.value.specs.declared.Offset.{Offset}
use Rattle.value.specs.declared.Kind.{Kind}
use Rattle.condition_depth.specs.Depth.{deep}
use Rattle.condition_sorts.specs.declared.Sort.TheVariants as S
use Rattle.condition_grammar.specs.Trees.{Tree, leaf, field}
use Rattle.condition_grammar.specs.Productions.{States}
use Rattle.condition_readers.specs.Meaning.{sort_of, first, first_bad, eval}
use Rattle.timetable.specs.Fields.{fields_of, has_field, field_at}
use Rattle.timetable.specs.Rows.{Row, texts_of, row_of}
use Rattle.text.specs.Reading.{read_as}
use Rattle.text_fields.specs.Fields.{bare_texts}
use Rattle.condition_givens.specs.Data.{valued}
use Rattle.condition_parts.specs.Numbers.{of_text, at_row}
use Rattle.condition.specs.Condition.{min_length, max_length, by_kinds, check_of, accepted, Result, hit, miss, unreadable, as_result, result_at}

-- of a text of good length that is not too deep, the productions decide: 7 is given exactly where no tree is derived; else Open's checks
-- and the result at every row, in every zone, are those of the tree that is (there is one at most); proved as `grammar_decides`
pub record ByGrammar (s : List ℕ) : Type 0 where
  pub seven_without_tree : Exactly (check_of s ≡ refuses bad_condition) ((t : Tree) → States s t → ⊥)
  pub checked_by_tree : (t : Tree) → States s t → check_of s ≡ first (by_kinds (sort_of t)) (first_bad s t)
  pub result_by_tree : (t : Tree) → States s t → (zone : Offset) (row : Row) → result_at zone s row ≡ as_result (eval zone s row t)

abbrev pub GrammarDecides : Type 0
GrammarDecides = (s : List ℕ) → min_length ≤ length s → length s ≤ max_length → deep s ≡ false → ByGrammar s

-- an accepted text states a tree: a truth value, with no bad literal; its result at every row, in every zone, is that of the tree; proved
-- as `accepted_by_tree`
pub record AcceptedTree (s : List ℕ) : Type 0 where
  pub tree : Tree
  pub stated : States s tree
  pub is_truth : sort_of tree ≡ S.Truth
  pub reads : first_bad s tree ≡ gives tt
  pub results : (zone : Offset) (row : Row) → result_at zone s row ≡ as_result (eval zone s row tree)

abbrev pub AcceptedByTree : Type 0
AcceptedByTree = (s : List ℕ) → accepted s ≡ true → AcceptedTree s

-- a text that Open does not accept is refused with 7, 8, 9, or a literal's 1, 2 or 3; proved as `open_numbers`
abbrev pub at_open : ℕ → Bool
at_open n = pick (of_text n) true (pick (eqb n bad_condition) true (pick (eqb n too_deep) true (eqb n wrong_kind)))

abbrev pub OpenNumbers : Type 0
OpenNumbers = (s : List ℕ) (r : Reason) → check_of s ≡ refuses_for r → at_open r.number ≡ true

-- of an accepted condition the result at any row, in any zone within its bounds, is hit, miss, or unreadable with 1, 2, 3, 4 or 6; proved
-- as `accepted_readable`
abbrev pub Readable : Result → Type 0
Readable hit = Unit {0}
Readable miss = Unit {0}
Readable (unreadable r) = at_row r.number ≡ true

abbrev pub AcceptedReadable : Type 0
AcceptedReadable = (zone : Offset) (s : List ℕ) (row : Row) → ok_offset zone ≡ true → accepted s ≡ true → Readable (result_at zone s row)

-- rows with the same texts, but for blanks round them, have the same result, so rows with the same texts and lines with the same fields
-- too; proved as `fields_alone`
pub record FieldsAlone : Type 0 where
  pub of_values : (zone : Offset) (s : List ℕ) (a b : Row) → bare_texts a ≡ bare_texts b → result_at zone s a ≡ result_at zone s b
  pub of_rows : (zone : Offset) (s : List ℕ) (a b : Row) → texts_of a ≡ texts_of b → result_at zone s a ≡ result_at zone s b
  pub of_lines : (zone : Offset) (s a b : List ℕ) → fields_of a ≡ fields_of b → result_at zone s (row_of a) ≡ result_at zone s (row_of b)

-- at a plain line `$n` is the line's own n-th field, 6 where it has none; proved as `plain_fields`
abbrev pub PlainFields : Type 0
PlainFields =
    (zone : Offset) (s line : List ℕ) (k : Kind) (w n p : ℕ)
    → eval zone s (row_of line) (leaf k w (field n p)) ≡ valued (pick (has_field line n) (read_as k (field_at line n)) (refuses no_field))
