-- Document 01, "Conditions": the tree that a text states: its shape, and `parse`, which is how the readers find it. Which tree it is
-- says Productions.antt.
use Rattle.std.specs.Prelude.{◌≡◌, ℕ, ◌≤◌, Bool, false, List, length, leb}
use Rattle.basis.specs.Choice.{pick}
use Rattle.value.specs.declared.Kind.{Kind}
use Rattle.condition_words.specs.Words.{skipped}
use Rattle.condition_depth.specs.Depth.{max_depth, deep}
use Rattle.condition_symbols.specs.declared.Op.{Op}
use Rattle.condition_grammar.specs.Grammar.{Parsed, none, got, then, Parts, condition}

-- a literal by the offsets between which its bytes stand, a field by its number and the offset of its `$`
pub data Leaf : Type 0 where
  literal : ℕ → ℕ → Leaf
  field : ℕ → ℕ → Leaf

pub data Below : Type 0 where
  cast : Kind → Below
  times : Bool → ℕ → Below

-- a leaf with its kind and the offset of the kind's word; one part below, with the offset of the kind's word or of the whole
-- number; two parts, with the offset where the first begins and the offset of the operator
pub data Tree : Type 0 where
  leaf : Kind → ℕ → Leaf → Tree
  one : Below → ℕ → Tree → Tree
  two : Op → ℕ → ℕ → Tree → Tree → Tree

abbrev pub trees : Parts Tree (Unit {0})
trees =
    record {
      literal = λ c k w from to. leaf k w (literal from to);
      field = λ c k w n p. leaf k w (field n p);
      cast = λ k w t. one (cast k) w t;
      times = λ negative n p t. one (times negative n) p t;
      two = two;
      after = λ o c t. c;
    }

-- what was read, where only spaces follow it
abbrev pub whole_text : {X : Type 0} → List ℕ → Parsed X → Parsed X
whole_text s p = then p (λ x n. pick (leb (length s) (skipped s n)) (got x n) none)

-- the tree that a text states, where so many parentheses may be opened within one another
abbrev pub parse_with : ℕ → List ℕ → Parsed Tree
parse_with d s = whole_text s (condition Tree (Unit {0}) trees s d 0 tt)

unfoldable pub parse : List ℕ → Parsed Tree
parse s = parse_with max_depth s

-- the sixteen of `parse` never decide: a text that is not too deep (which Open asks first) states the same tree, or none, with any
-- greater number; proved as `allowance_never_decides`
abbrev pub AllowanceNeverDecides : Type 0
AllowanceNeverDecides = (s : List ℕ) (d : ℕ) → deep s ≡ false → max_depth ≤ d → parse_with d s ≡ parse s
