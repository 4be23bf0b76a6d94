-- What falls at each call of a reader by a reader: the text that is left, and at the same offset the reader's rank.
use mathlib.Core.Path.{◌≡◌, subst}
use mathlib.Core.List.{List}
use lib.ListN.{length}
use Prim.Native.Nat.{ℕ, ◌+◌, ◌-◌, ◌*◌, ◌<◌}
use native.Mathlib.Omega.{arith}
use Rattle.std.specs.Prelude.{Some, Ok}
use Rattle.value.specs.declared.Offset.{Offset}
use Rattle.timetable.specs.Rows.{Row}
use Rattle.condition_symbols.specs.Symbols.{comparison_at, start_at, multiplier_at}
use Rattle.condition_symbols.specs.declared.Joint.{Joint}
use Rattle.condition_symbols.specs.declared.Start.{Start}
use Rattle.condition_symbols.specs.declared.Start.TheVariants as S
use Rattle.condition_symbols.specs.declared.Multiplier.{Multiplier}
use Rattle.condition_parts.specs.declared.Part.{Part}
use Rattle.condition_givens.specs.declared.Mode.{Mode}
use Rattle.condition_grammar.specs.Grammar.{Parsed, none, got}
use Rattle.condition_grammar.proofs.Ends.{Past, PastJoint, PastStart, PastMultiplier, or_past, and_past, comparison_past, sign_past, start_past, multiplier_past}
use Rattle.condition_grammar.proofs.Good.{Good, inner_good, condition_good, clause_good, test_good, sum_good, term_good}
use Rattle.condition_readers.specs.Carried.{told, parts, inside, joint_at, chain_in, operand_in}
use Rattle.condition_readers.specs.declared.Read.{Read}
use Rattle.condition_readers.specs.declared.Rule.{Rule}
use Rattle.condition_readers.specs.declared.Rule.TheVariants.{Condition, Clause, Sum}

-- the text that is left, then the rank: ranks order the calls at one offset
abbrev pub measure : List ℕ → ℕ → ℕ → ℕ
measure s at rank = 16 * (length s - at) + rank

-- the rank of an operand; that of its chain is the next. A factor has 1, a test 4.
abbrev pub rank : Rule → ℕ
rank Condition = 7
rank Clause = 5
rank Sum = 2

-- what stands in parentheses: the text that is left after the one with which a factor starts
abbrev pub behind : List ℕ → Start → ℕ
behind s (S.Open n) = measure s n 9
behind s (S.Make k p n) = measure s n 9

told_past : (L at : ℕ) (p : Parsed Part) (y : Read) → Good L at p → told p ≡ Some y → Past L at y.end
unfolding Good
told_past L at none y g e = cc
told_past L at (got v n) y g e = let q : n ≡ y.end = cc in subst (Past L at) q g

module _ (zone : Offset) (d : ℕ) (s : List ℕ) (row : Row) (at : ℕ) (m : Mode) (y : Read) where
  pub operand_past : (x : Rule) → told (operand_in zone d s row x at m) ≡ Some y → Past (length s) at y.end
  unfolding operand_in
  operand_past Condition = told_past (length s) at _ y (clause_good Part Mode (parts zone s row) s (inside zone d s row) (inner_good Part Mode (parts zone s row) s d) at m)
  operand_past Clause = told_past (length s) at _ y (test_good Part Mode (parts zone s row) s (inside zone d s row) (inner_good Part Mode (parts zone s row) s d) at m)
  operand_past Sum = told_past (length s) at _ y (term_good Part Mode (parts zone s row) s (inside zone d s row) (inner_good Part Mode (parts zone s row) s d) at m)

  pub chain_past : (x : Rule) → told (chain_in zone d s row x at m) ≡ Some y → Past (length s) at y.end
  unfolding chain_in
  chain_past Condition = told_past (length s) at _ y (condition_good Part Mode (parts zone s row) s (inside zone d s row) (inner_good Part Mode (parts zone s row) s d) at m)
  chain_past Clause = told_past (length s) at _ y (clause_good Part Mode (parts zone s row) s (inside zone d s row) (inner_good Part Mode (parts zone s row) s d) at m)
  chain_past Sum = told_past (length s) at _ y (sum_good Part Mode (parts zone s row) s (inside zone d s row) (inner_good Part Mode (parts zone s row) s d) at m)

module _ (s : List ℕ) (at : ℕ) where
  joint_ends : (x : Rule) → PastJoint (length s) at (joint_at x s at)
  unfolding joint_at
  joint_ends Condition = or_past s at
  joint_ends Clause = and_past s at
  joint_ends Sum = sign_past s at

  pub joint_past : (x : Rule) (j : Joint) → joint_at x s at ≡ Some j → Past (length s) at j.end
  joint_past x j e = subst (PastJoint (length s) at) e (joint_ends x)

  pub comparison_ends : (j : Joint) → comparison_at s at ≡ Some j → Past (length s) at j.end
  comparison_ends j e = subst (PastJoint (length s) at) e (comparison_past s at)

  pub star_past : (x : Multiplier) → multiplier_at s at ≡ Ok (Some x) → Past (length s) at x.end
  star_past x e = subst (PastMultiplier (length s) at) e (multiplier_past s at)

  starts_behind : (y : Start) → PastStart (length s) at (Some y) → behind s y < measure s at 1
  starts_behind (S.Open n) e = omega arith
  starts_behind (S.Make k p n) e = omega arith

  pub start_falls : (y : Start) → start_at s at ≡ Some y → behind s y < measure s at 1
  start_falls y e = starts_behind y (subst (PastStart (length s) at) e (start_past s at))

pub ruleset falls = (operand_past, chain_past, joint_past, comparison_ends, star_past, start_falls)
