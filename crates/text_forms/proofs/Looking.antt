-- Looking for a letter among others.
use mathlib.Core.Path.{◌≡◌, refl}
use mathlib.Core.Bool.{Bool, true, false}
use mathlib.Core.List.{List, [], ◌∷◌}
use Prim.Native.Nat.{ℕ}
use lib.Dec.{eqb}
use Rattle.std.specs.List.{list_any}
use Rattle.std.specs.Prelude.{◌||◌}
use Rattle.basis.specs.Choice.{pick}
use Rattle.value.specs.Rows.{has}

pub has_any : (ls : List ℕ) (p : ℕ) → list_any (λ (q : ℕ). eqb q p) ls ≡ has ls p
unfolding has
has_any [] p = refl
has_any (l ∷ ls) p = go (eqb l p) (has_any ls p)
  where
    go : (b : Bool) → list_any (λ (q : ℕ). eqb q p) ls ≡ has ls p → (b || list_any (λ (q : ℕ). eqb q p) ls) ≡ pick b true (has ls p)
    go true e = refl
    go false e = e
