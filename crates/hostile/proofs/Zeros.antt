-- The number of bytes without the zeros at the end is determined.
use mathlib.Core.Path.{◌≡◌, refl}
use mathlib.Core.Bool.{Bool, true, false}
use mathlib.Core.List.{List}
use mathlib.Core.Logic.{◌⊎◌, inl, inr, ⊎_elim}
use Prim.Native.Nat.{ℕ, ◌-◌, ◌≤◌, ◌<◌}
use borrow.Author.Tests.{leb-true, leb-false}
use native.Mathlib.Omega.{arith}
use lib.Dec.{leb}
use Rattle.hostile.specs.Shown.{KeptBytes}

le_or_lt : (a b : ℕ) → (a ≤ b) ⊎ (b < a)
le_or_lt a b = go (leb a b) refl
  where
    go : (x : Bool) → leb a b ≡ x → (a ≤ b) ⊎ (b < a)
    go true e = inl (leb-true a b e)
    go false e = inr (leb-false a b e)

pub one_kept : (s : List ℕ) (r q : ℕ) → KeptBytes s r → KeptBytes s q → r ≡ q
one_kept s r q a b = ⊎_elim (λ l. ⊎_elim (λ m. omega arith) (λ m. absurd (b.last (omega arith) (a.zeros (q - 1) (omega (arith, b.within)) (omega arith)))) (le_or_lt q r)) (λ l. absurd (a.last (omega arith) (b.zeros (r - 1) (omega (arith, a.within)) (omega arith)))) (le_or_lt r q)
