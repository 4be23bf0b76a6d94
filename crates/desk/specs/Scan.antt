-- The first number that passes a test, and whether all pass one.
use Rattle.std.specs.Prelude.{Bool, true, ℕ, zero, suc}
use Rattle.basis.specs.Choice.{pick, both}

-- the first of i, i + 1, .. (n of them) that passes p; i + n where none does
unfoldable pub first_passing : (ℕ → Bool) → ℕ → ℕ → ℕ
first_passing p i zero = i
first_passing p i (suc n) = pick (p i) i (first_passing p (suc i) n)

-- whether every number below n passes p
unfoldable pub all : (ℕ → Bool) → ℕ → Bool
all p zero = true
all p (suc n) = both (all p n) (p n)
