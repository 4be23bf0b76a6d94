-- What it says of a text that Open accepts it, or does not.
use mathlib.Core.Path.{◌≡◌, refl}
use mathlib.Core.Bool.{Bool, true, false}
use mathlib.Core.List.{List}
use Prim.Native.Nat.{ℕ, ◌≤◌}
use native.Mathlib.Omega.{arith}
use lib.ListN.{length}
use lib.Dec.{leb}
use borrow.Author.Tests.{leb-true}
use Rattle.basis.specs.Choice.{pick, both}
use Rattle.basis.specs.Answer.{Reason, Answer, gives, refuses_for, refuses}
use Rattle.basis.proofs.Tests.{both_left, both_right}
use Rattle.value.specs.Refusals.{bad_condition, too_deep}
use Rattle.condition_depth.specs.Depth.{deep}
use Rattle.condition_sorts.specs.declared.Sort.{Sort}
use Rattle.condition_sorts.specs.declared.Sort.TheVariants as S
use Rattle.condition_grammar.specs.Grammar.{Parsed, none, got}
use Rattle.condition_grammar.specs.Trees.{Tree, parse}
use Rattle.condition_readers.specs.Meaning.{sort_of, first, first_bad}
use Rattle.condition.specs.Condition.{check_of, by_kinds, by_tree, passes, accepted, min_length, max_length}

passes_gives : (a : Answer (Unit {0})) → passes a ≡ true → a ≡ gives tt
unfolding passes
passes_gives (gives tt) e = refl
passes_gives (refuses_for r) e = let z : ◌≡◌ {A = ℕ} 0 1 = cc in absurd (omega arith)

-- an accepted condition passes its checks
pub accepted_gives : (s : List ℕ) → accepted s ≡ true → check_of s ≡ gives tt
unfolding accepted
accepted_gives s e = passes_gives (check_of s) e

refused_by : (a : Answer (Unit {0})) → passes a ≡ false → (r : Reason) × (a ≡ refuses_for r)
unfolding passes
refused_by (gives x) e = let z : ◌≡◌ {A = ℕ} 0 1 = cc in absurd (omega arith)
refused_by (refuses_for r) e = (r, refl)

-- a text that is not accepted has its refusal
pub not_accepted_refuses : (s : List ℕ) → accepted s ≡ false → (r : Reason) × (check_of s ≡ refuses_for r)
unfolding accepted
not_accepted_refuses s e = refused_by (check_of s) e

no_refusal : {A : Type 0} (r : Reason) → ◌≡◌ {A = Answer (Unit {0})} (refuses_for r) (gives tt) → A
no_refusal r e = let z : ◌≡◌ {A = ℕ} 0 1 = cc in absurd (omega arith)

lengths_hold : (s : List ℕ) (a : Answer (Unit {0})) (b : Bool) → pick b a (refuses bad_condition) ≡ gives tt → b ≡ true
lengths_hold s a true e = refl
lengths_hold s a false e = no_refusal _ e

-- "Length 1 to 240 bytes."
pub accepted_length : (s : List ℕ) → accepted s ≡ true → (min_length ≤ length s) × (length s ≤ max_length)
unfolding check_of
accepted_length s h =
    let e = lengths_hold s _ (both (leb min_length (length s)) (leb (length s) max_length)) (accepted_gives s h) in
    (leb-true min_length (length s) (both_left _ _ e), leb-true (length s) max_length (both_right (leb min_length (length s)) _ e))

-- an accepted text states a tree that is a truth value and has no bad literal
pub record Stated (s : List ℕ) (p : Parsed Tree) : Type 0 where
  pub tree : Tree
  pub end : ℕ
  pub stated : p ≡ got tree end
  pub is_truth : sort_of tree ≡ S.Truth
  pub reads : first_bad s tree ≡ gives tt

truth_stated : (s : List ℕ) (t : Tree) (n : ℕ) (x : Sort) → sort_of t ≡ x → first (by_kinds x) (first_bad s t) ≡ gives tt → Stated s (got t n)
unfolding by_kinds first
truth_stated s t n S.Clash e h = no_refusal _ h
truth_stated s t n S.Truth e h = record { tree = t; end = n; stated = refl; is_truth = e; reads = h }
truth_stated s t n (S.Of k) e h = no_refusal _ h

tree_stated : (s : List ℕ) (p : Parsed Tree) → by_tree s p ≡ gives tt → Stated s p
unfolding by_tree
tree_stated s none e = no_refusal _ e
tree_stated s (got t n) e = truth_stated s t n (sort_of t) refl e

checks_stated : (s : List ℕ) (l d : Bool) (p : Parsed Tree) → pick l (pick d (refuses too_deep) (by_tree s p)) (refuses bad_condition) ≡ gives tt → Stated s p
checks_stated s true true p e = no_refusal _ e
checks_stated s true false p e = tree_stated s p e
checks_stated s false d p e = no_refusal _ e

pub accepted_stated : (s : List ℕ) → accepted s ≡ true → Stated s (parse s)
unfolding check_of
accepted_stated s h = checks_stated s (both (leb min_length (length s)) (leb (length s) max_length)) (deep s) (parse s) (accepted_gives s h)
