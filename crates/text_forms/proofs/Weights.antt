-- What one of a component counts: at least one, and a day counts most.
use mathlib.Core.Path.{◌≡◌, refl}
use mathlib.Core.Bool.{Bool, true, false}
use Prim.Native.Nat.{ℕ, ◌*◌, ◌/◌, ◌≤◌}
use native.Mathlib.Nat.{mul-le-mul}
use native.Mathlib.Omega.{arith}
use lib.Dec.{eqb}
use Rattle.basis.specs.Choice.{both}
use Rattle.value.specs.Bounds.{second_ticks, day_ticks}
use Rattle.text_forms.specs.Forms.{weight, years, days, hours, minutes}

-- between one and a day
abbrev Between : ℕ → Type 0
Between w = (1 ≤ w) × (w ≤ day_ticks / second_ticks)

pub weight_between : (time : Bool) (c : ℕ) → Between (weight time c)
unfolding weight
weight_between time c = go (eqb c years) (eqb c days) (eqb c hours) (both time (eqb c minutes)) refl refl refl refl
  where
    go : (a b d e : Bool) → eqb c years ≡ a → eqb c days ≡ b → eqb c hours ≡ d → both time (eqb c minutes) ≡ e → Between (weight time c)
    go true b d e p q r x = rw p (omega arith, omega arith)
    go false true d e p q r x = rw (p, q) (omega arith, omega arith)
    go false false true e p q r x = rw (p, q, r) (omega arith, omega arith)
    go false false false true p q r x = rw (p, q, r, x) (omega arith, omega arith)
    go false false false false p q r x = rw (p, q, r, x) (omega arith, omega arith)

pub weight_some : {w : ℕ} (time : Bool) (c : ℕ) → w ≡ weight time c → 1 ≤ w
weight_some time c e = rw e (weight_between time c).0

-- a number of a component counts no more than so many days
pub weighed : (time : Bool) (c cap n : ℕ) {w : ℕ} → w ≡ weight time c → n ≤ cap → n * w ≤ cap * (day_ticks / second_ticks)
weighed time c cap n e h = rw e (mul-le-mul h (weight_between time c).1)
