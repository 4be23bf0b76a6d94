-- A word that a `match` compares with literals, by its length and byte by byte: where one of these is another, the words differ.
use mathlib.Core.Path.{◌≡◌, refl}
use mathlib.Core.Bool.{Bool, true, false}
use mathlib.Core.List.{List, [], ◌∷◌}
use Prim.Native.Nat.{ℕ, zero, suc, ◌<◌}
use native.Mathlib.Omega.{arith}
use lib.Dec.{eqb}
use lib.ListN.{length, get_or}
use borrow.Author.Tests.{ne_eqb}
use Rattle.basis.specs.Choice.{both}
use Rattle.condition_words.specs.Words.{same}

both_no : (b : Bool) → both b false ≡ false
unfolding both
both_no true = refl
both_no false = refl

pub shorter : (w lit : List ℕ) → length w < length lit → same w lit ≡ false
unfolding same
shorter [] [] h = absurd (omega arith)
shorter [] (y ∷ ys) h = refl
shorter (x ∷ xs) [] h = absurd (omega arith)
shorter (x ∷ xs) (y ∷ ys) h = rw (shorter xs ys (omega arith)) (both_no (eqb x y))

pub longer : (w lit : List ℕ) → length lit < length w → same w lit ≡ false
unfolding same
longer [] [] h = absurd (omega arith)
longer [] (y ∷ ys) h = absurd (omega arith)
longer (x ∷ xs) [] h = refl
longer (x ∷ xs) (y ∷ ys) h = rw (longer xs ys (omega arith)) (both_no (eqb x y))

pub other_at : (i : ℕ) (w lit : List ℕ) → i < length lit → (get_or w i 0 ≡ get_or lit i 0 → ⊥) → same w lit ≡ false
unfolding same both
other_at i [] [] h n = absurd (omega arith)
other_at i [] (y ∷ ys) h n = refl
other_at i (x ∷ xs) [] h n = refl
other_at zero (x ∷ xs) (y ∷ ys) h n = rw (ne_eqb x y n)
other_at (suc i) (x ∷ xs) (y ∷ ys) h n = rw (other_at i xs ys (omega arith) n) (both_no (eqb x y))

-- for `using`, where a function matches a word against literals
pub ruleset literals = (shorter, longer, other_at)
