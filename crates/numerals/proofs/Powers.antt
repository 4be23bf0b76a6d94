-- Powers of ten: a number with zeros after it, and numbers of so many digits.
use mathlib.Core.Path.{◌≡◌, refl, ap, sym, ◌∙◌}
use Prim.Native.Nat.{ℕ, zero, suc, ◌+◌, ◌-◌, ◌*◌, ◌^◌, ◌≤◌, ◌<◌}
use native.Mathlib.Nat.{pow-suc, pow-succ', mul_assoc, pow-le-pow_right, mul-le-mul_left, mul-lt-mul_of_pos_right, one-le-pow}
use native.Mathlib.Omega.{arith}

-- one zero before the others
pub one_zero : (v k : ℕ) → (k ≡ 0 → ⊥) → v * 10 * 10 ^ (k - 1) ≡ v * 10 ^ k
one_zero v zero h = absurd (h refl)
one_zero v (suc k) h =
    let e : suc k - 1 ≡ k = omega arith in
    rw e (mul_assoc v 10 (10 ^ k) ∙ ap (λ (x : ℕ). v * x) (sym (pow-succ' 10 k)))

pub no_zero : (v k : ℕ) → k ≡ 0 → v ≡ v * 10 ^ k
no_zero v k e = rw e (omega arith)

pub ten_fits : (v k m : ℕ) → (k ≡ 0 → ⊥) → v * 10 ^ k < m → v * 10 < m
ten_fits v k m h l =
    let p : 10 ^ 1 ≤ 10 ^ k = pow-le-pow_right (omega arith) (least k h) in
    let q : v * 10 ≤ v * 10 ^ k = mul-le-mul_left v p in
    omega arith
  where
    least : (k : ℕ) → (k ≡ 0 → ⊥) → 1 ≤ k
    least zero h = absurd (h refl)
    least (suc k) h = omega arith

-- a number of k digits is one of j digits at most, where k is at most j
pub widened : (v k j : ℕ) → k ≤ j → v < 10 ^ k → v < 10 ^ j
widened v k j h l =
    let p : 10 ^ k ≤ 10 ^ j = pow-le-pow_right (omega arith) h in
    omega arith

-- k zeros and d more
pub zeros_join : (k d : ℕ) → 10 ^ k * 10 ^ d ≡ 10 ^ (k + d)
zeros_join k zero =
    let z : k + 0 ≡ k = omega arith in
    rw z (omega arith)
zeros_join k (suc d) =
    let z : k + suc d ≡ suc (k + d) = omega arith in
    rw (z, pow-suc 10 d, pow-suc 10 (k + d), ← mul_assoc (10 ^ k) (10 ^ d) 10, zeros_join k d)

-- with the zeros that it lacks it has j digits
pub filled : (v k j : ℕ) → k ≤ j → v < 10 ^ k → v * 10 ^ (j - k) < 10 ^ j
filled v k j h l =
    let p : 1 ≤ 10 ^ (j - k) = one-le-pow (j - k) 10 (omega arith) in
    let q : v * 10 ^ (j - k) < 10 ^ k * 10 ^ (j - k) = mul-lt-mul_of_pos_right l p in
    rw (joined k j h) at q
  where
    joined : (k j : ℕ) → k ≤ j → 10 ^ k * 10 ^ (j - k) ≡ 10 ^ j
    joined k j h =
        let z : k + (j - k) ≡ j = omega arith in
        zeros_join k (j - k) ∙ ap (λ (x : ℕ). 10 ^ x) z

-- every number has fewer digits than itself and one
pub few_digits : (n : ℕ) → n < 10 ^ suc n
few_digits zero = omega arith
few_digits (suc n) = omega (arith, few_digits n, pow-suc 10 (suc n))
