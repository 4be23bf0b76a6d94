-- Machine numbers with a sign: a magnitude below 2^31, with a minus or without one.
use mathlib.Core.Path.{◌≡◌, sym, ◌∙◌}
use Prim.Native.Nat.{ℕ, zero, suc, ◌<◌, ◌^◌}
use native.Mathlib.Omega.{arith}
use lib.Signed.{mag}
use lib.IntN.{ℤ, pos, neg_ℤ, ◌-ℤ◌, +ℤ_idl}
use mathlib.Core.Bool.{Bool, true, false}
use mir.Syntax.{w32}
use mir.Val.{SFits, to_z, of_z}
use mir.ValLaws.{to_z-of_z}
use Rattle.value_components.specs.Components.{signed_number}

pub fits_plus : (n : ℕ) → n < 2 ^ 31 → SFits w32 (pos n)
fits_plus n h = record { sfits = h }

pub fits_minus : (n : ℕ) → n < 2 ^ 31 → SFits w32 (neg_ℤ (pos n))
fits_minus zero h = record { sfits = h }
fits_minus (suc n) h = record { sfits = omega arith }

-- the machine's reading of a magnitude
pub read_plus : (n : ℕ) → n < 2 ^ 31 → to_z w32 n ≡ pos n
read_plus n h = to_z-of_z w32 (pos n) (fits_plus n h)

-- 0 - n
pub read_minus : (n : ℕ) → n < 2 ^ 31 → to_z w32 0 -ℤ to_z w32 n ≡ neg_ℤ (pos n)
read_minus n h = rw (read_plus n h) (+ℤ_idl (neg_ℤ (pos n)))

-- what the machine hands back is the number with its sign
pub signed_minus : (n : ℕ) (negative : Bool) → n < 2 ^ 31 → negative ≡ true → to_z w32 (of_z w32 (to_z w32 0 -ℤ to_z w32 n)) ≡ signed_number negative n
signed_minus n negative h e =
    (λ i. to_z w32 (of_z w32 (read_minus n h i))) ∙ to_z-of_z w32 (neg_ℤ (pos n)) (fits_minus n h) ∙ (λ i. signed_number (sym e i) n)

pub signed_plus : (n : ℕ) (negative : Bool) → n < 2 ^ 31 → negative ≡ false → to_z w32 n ≡ signed_number negative n
signed_plus n negative h e = read_plus n h ∙ (λ i. signed_number (sym e i) n)

-- a number that is kept in a field
pub kept_number : (z y : ℤ) → mag z < 2 ^ 31 → z ≡ y → to_z w32 (of_z w32 z) ≡ y
kept_number z y f e = to_z-of_z w32 z (record { sfits = f }) ∙ e
