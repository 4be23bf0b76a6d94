-- Carried: what the readers hand one another, the grammar at the parts that the code carries. No promise to a caller rests on
-- it, but on the tree that a text states (Productions.antt of crate `condition_grammar`): `read_of` says what the reader of a whole text
-- gives of that tree.
use Rattle.std.specs.Prelude.{ℕ, List, Option, Some, None}
use Rattle.value.specs.declared.Offset.{Offset}
use Rattle.timetable.specs.Rows.{Row, row_with}
use Rattle.condition_symbols.specs.Symbols.{or_at, and_at, sign_at, held_at}
use Rattle.condition_symbols.specs.declared.Joint.{Joint}
use Rattle.condition_symbols.specs.declared.Start.{Start}
use Rattle.condition_symbols.specs.declared.Start.TheVariants as S
use Rattle.condition_givens.specs.Carried.{given_of, bad_of}
use Rattle.condition_parts.specs.Carried.{literal_part, field_part, cast_part, times_part, two_part, after_part}
use Rattle.condition_givens.specs.declared.Given.{Given}
use Rattle.condition_givens.specs.declared.Given.TheVariants as G
use Rattle.condition_parts.specs.declared.Part.{Part}
use Rattle.condition_givens.specs.declared.Mode.{Mode}
use Rattle.condition_givens.specs.declared.Mode.TheVariants as M
use Rattle.condition_grammar.specs.Grammar.{Parsed, none, got, then, holding, Parts, Inside, inner, condition_in, condition_more_in, clause_in, clause_more_in, test_in, sum_in, sum_more_in, term_in, term_more_in, factor_in}
use Rattle.condition_grammar.specs.Trees.{Tree}
use Rattle.condition_readers.specs.Meaning.{sort_of, first_bad, eval}
use Rattle.condition_readers.specs.declared.Read.{Read}
use Rattle.condition_readers.specs.declared.Reader.{Reader}
use Rattle.condition_readers.specs.declared.Rule.{Rule}
use Rattle.condition_readers.specs.declared.Rule.TheVariants.{Condition, Clause, Sum}

abbrev pub parts : Offset → List ℕ → Row → Parts Part Mode
parts zone s row =
    record {
      literal = λ m k w from to. literal_part m k s from to;
      field = λ m k w n p. field_part m k row n;
      cast = λ k w a. cast_part k a;
      times = λ negative n p a. times_part negative n a;
      two = λ o b p l r. two_part zone o l r;
      after = after_part;
    }

abbrev pub read : Part → ℕ → Read
read a n = record { part = a; end = n }

abbrev pub told : Parsed Part → Option Read
told none = None
told (got a n) = Some (read a n)

abbrev pub inside : Offset → ℕ → List ℕ → Row → Inside Part Mode
inside zone d s row = inner Part Mode (parts zone s row) s d

-- the operator of a rule
unfoldable pub joint_at : Rule → List ℕ → ℕ → Option Joint
joint_at Condition s at = or_at s at
joint_at Clause s at = and_at s at
joint_at Sum s at = sign_at s at

-- a rule, and what follows its first operand
module _ (zone : Offset) (d : ℕ) (s : List ℕ) (row : Row) where
  unfoldable pub chain_in : Rule → ℕ → Mode → Parsed Part
  chain_in Condition at m = condition_in Part Mode (parts zone s row) s (inside zone d s row) at m
  chain_in Clause at m = clause_in Part Mode (parts zone s row) s (inside zone d s row) at m
  chain_in Sum at m = sum_in Part Mode (parts zone s row) s (inside zone d s row) at m

  unfoldable pub more_in : Rule → Mode → Part → ℕ → Parsed Part
  more_in Condition m left at = condition_more_in Part Mode (parts zone s row) s (inside zone d s row) 0 at m left
  more_in Clause m left at = clause_more_in Part Mode (parts zone s row) s (inside zone d s row) 0 at m left
  more_in Sum m left at = sum_more_in Part Mode (parts zone s row) s (inside zone d s row) 0 at m left

  unfoldable pub operand_in : Rule → ℕ → Mode → Parsed Part
  operand_in Condition at m = clause_in Part Mode (parts zone s row) s (inside zone d s row) at m
  operand_in Clause at m = test_in Part Mode (parts zone s row) s (inside zone d s row) at m
  operand_in Sum at m = term_in Part Mode (parts zone s row) s (inside zone d s row) at m

  -- what stands in the parentheses with which a factor starts, up to the closing one
  unfoldable pub inner_in : Start → Mode → Parsed Part
  inner_in (S.Open at) m = condition_in Part Mode (parts zone s row) s (inside zone d s row) at m
  inner_in (S.Make k w at) m = holding (held_at s at)
      (λ from to n. got (literal_part m k s from to) n)
      (λ i p n. got (field_part m k row i) n)
      (then (sum_in Part Mode (parts zone s row) s (inside zone d s row) at m) (λ x n. got (cast_part k x) n))

-- what each reader gives, of its text, for its row and in its zone
abbrev pub reader_row : Reader → Row
reader_row r = row_with r.row.line.now r.row.made.now

abbrev pub reader_parts : Reader → Parts Part Mode
reader_parts r = parts r.zone r.text.now (reader_row r)

abbrev pub reader_inside : Reader → ℕ → Inside Part Mode
reader_inside r d = inside r.zone d r.text.now (reader_row r)

abbrev pub chain_read : Reader → ℕ → Rule → ℕ → Mode → Option Read
chain_read r d x at m = told (chain_in r.zone d r.text.now (reader_row r) x at m)

abbrev pub more_read : Reader → ℕ → Rule → Mode → Read → Option Read
more_read r d x m y = told (more_in r.zone d r.text.now (reader_row r) x m y.part y.end)

abbrev pub operand_read : Reader → ℕ → Rule → ℕ → Mode → Option Read
operand_read r d x at m = told (operand_in r.zone d r.text.now (reader_row r) x at m)

abbrev pub multiplied_read : Reader → Read → Option Read
multiplied_read r y = told (term_more_in Part Mode (reader_parts r) r.text.now (reader_inside r 0) y.end y.part)

abbrev pub test_read : Reader → ℕ → ℕ → Mode → Option Read
test_read r d at m = told (test_in Part Mode (reader_parts r) r.text.now (reader_inside r d) at m)

abbrev pub factor_read : Reader → ℕ → ℕ → Mode → Option Read
factor_read r d at m = told (factor_in Part Mode (reader_parts r) r.text.now (reader_inside r d) at m)

abbrev pub inner_read : Reader → ℕ → Start → Mode → Option Read
inner_read r d x m = told (inner_in r.zone d r.text.now (reader_row r) x m)

-- what the code carries of a tree, in each mode
unfoldable pub given_in : Offset → List ℕ → Row → Mode → Tree → Given
given_in zone s row M.Check t = bad_of (first_bad s t)
given_in zone s row M.Live t = given_of (eval zone s row t)
given_in zone s row M.Dead t = G.Nothing

abbrev pub part_of : Offset → List ℕ → Row → Mode → Tree → Part
part_of zone s row m t = record { sort = sort_of t; given = given_in zone s row m t }

unfoldable pub read_of : Offset → List ℕ → Row → Mode → Parsed Tree → Option Read
read_of zone s row m none = None
read_of zone s row m (got t n) = Some (read (part_of zone s row m t) n)
