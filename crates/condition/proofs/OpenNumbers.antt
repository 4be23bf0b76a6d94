-- The numbers of Open's checks: 7, 8, 9, and 1, 2 and 3 of a literal.
use mathlib.Core.Path.{◌≡◌, refl, subst}
use mathlib.Core.Bool.{Bool, true, false}
use mathlib.Core.List.{List}
use Prim.Native.Nat.{ℕ}
use native.Mathlib.Omega.{arith}
use lib.ListN.{length}
use lib.Dec.{leb}
use Rattle.basis.specs.Choice.{pick, both}
use Rattle.basis.specs.Answer.{Answer, gives, refuses_for, refuses}
use Rattle.value.specs.Refusals.{bad_condition, too_deep}
use Rattle.text.specs.Reading.{read_as}
use Rattle.condition_words.specs.Words.{between}
use Rattle.condition_depth.specs.Depth.{deep}
use Rattle.condition_parts.specs.Numbers.{of_text}
use Rattle.condition_sorts.specs.declared.Sort.{Sort}
use Rattle.condition_sorts.specs.declared.Sort.TheVariants as S
use Rattle.condition_parts.proofs.Numbers.{Only, read_only}
use Rattle.condition_grammar.specs.Grammar.{Parsed, none, got}
use Rattle.condition_grammar.specs.Trees.{Tree, leaf, one, two, literal, field, parse}
use Rattle.condition_readers.specs.Meaning.{sort_of, fits, first, first_bad}
use Rattle.condition.specs.Condition.{check_of, by_kinds, by_tree, min_length, max_length}
use Rattle.condition.specs.Laws.{at_open, OpenNumbers}

-- an answer whose number is one of Open's checks, if it is a refusal
abbrev Told : Answer (Unit {0}) → Type 0
Told (gives x) = Unit {0}
Told (refuses_for r) = at_open r.number ≡ true

either : (b r : Bool) → b ≡ true → pick b true r ≡ true
either true r h = refl
either false r h = let z : ◌≡◌ {A = ℕ} 0 1 = cc in absurd (omega arith)

fits_told : {A : Type 0} (a : Answer A) → Only a → Told (fits a)
unfolding fits
fits_told (gives v) h = tt
fits_told (refuses_for r) h = either (of_text r.number) _ h

first_told : (a b : Answer (Unit {0})) → Told a → Told b → Told (first a b)
unfolding first
first_told (gives x) b p q = q
first_told (refuses_for r) b p q = p

kinds_told : (x : Sort) → Told (by_kinds x)
unfolding by_kinds
kinds_told S.Clash = refl
kinds_told S.Truth = tt
kinds_told (S.Of k) = refl

bad_told : (s : List ℕ) (t : Tree) → Told (first_bad s t)
unfolding first_bad
bad_told s (leaf k w (literal from to)) = fits_told (read_as k (between s from to)) (read_only k (between s from to))
bad_told s (leaf k w (field n p)) = tt
bad_told s (one o p t) = bad_told s t
bad_told s (two o b p l r) = first_told (first_bad s l) (first_bad s r) (bad_told s l) (bad_told s r)

tree_told : (s : List ℕ) (p : Parsed Tree) → Told (by_tree s p)
unfolding by_tree
tree_told s none = refl
tree_told s (got t n) = first_told (by_kinds (sort_of t)) (first_bad s t) (kinds_told (sort_of t)) (bad_told s t)

checks_told : (s : List ℕ) (l d : Bool) (p : Parsed Tree) → Told (pick l (pick d (refuses too_deep) (by_tree s p)) (refuses bad_condition))
checks_told s true true p = refl
checks_told s true false p = tree_told s p
checks_told s false d p = refl

pub open_numbers : OpenNumbers
unfolding check_of
open_numbers s r e = subst Told e (checks_told s (both (leb min_length (length s)) (leb (length s) max_length)) (deep s) (parse s))
