-- A fraction's final zeros, taken off when it is written and given back by its scale when it is read.
use mathlib.Core.Path.{◌≡◌, refl}
use mathlib.Core.Bool.{Bool, true, false}
use Prim.Native.Nat.{ℕ, zero, suc, ◌-◌, ◌*◌, ◌/◌, ◌%◌, ◌^◌, ◌≤◌, ◌<◌}
use native.Mathlib.Nat.{pow-suc, mul_assoc}
use native.Mathlib.Omega.{arith}
use lib.Dec.{eqb}
use borrow.Author.Tests.{eq-eqb, ne_eqb, eqb-true}
use Rattle.basis.specs.Choice.{pick}
use Rattle.numerals.specs.Writing.{kept_digits}

pub strip_le : (k n : ℕ) → (kept_digits k n).count ≤ k
unfolding kept_digits
strip_le zero n = omega arith
strip_le (suc k) n = go (eqb (n % 10) 0) (strip_le k (n / 10))
  where
    go : (b : Bool) → (kept_digits k (n / 10)).count ≤ k → (pick b (kept_digits k (n / 10)) (record { value = n; count = suc k })).count ≤ suc k
    go true h = omega arith
    go false h = omega arith

-- the final zeros are given back by the scale
pub given_back : (k n : ℕ) → n < 10 ^ k → (kept_digits k n).value * 10 ^ (k - (kept_digits k n).count) ≡ n
unfolding kept_digits
given_back zero n h = omega arith
given_back (suc k) n h = go (eqb (n % 10) 0) refl (given_back k (n / 10) (omega (arith, pow-suc 10 k))) (strip_le k (n / 10))
  where
    go : (b : Bool) → eqb (n % 10) 0 ≡ b → (r : (kept_digits k (n / 10)).value * 10 ^ (k - (kept_digits k (n / 10)).count) ≡ n / 10) → (kept_digits k (n / 10)).count ≤ k
        → (pick b (kept_digits k (n / 10)) (record { value = n; count = suc k })).value
        * 10 ^ (suc k - (pick b (kept_digits k (n / 10)) (record { value = n; count = suc k })).count) ≡ n
    go true e r l =
        let w = kept_digits k (n / 10) in
        let z : n % 10 ≡ 0 = eqb-true (n % 10) 0 e in
        let d : suc k - w.count ≡ suc (k - w.count) = omega arith in
        rw (d, pow-suc 10 (k - w.count), ← mul_assoc w.value (10 ^ (k - w.count)) 10, r) (omega arith)
    go false e r l =
        let d : suc k - suc k ≡ 0 = omega arith in
        rw d (omega arith)

pub strip_lt : (k n : ℕ) → n < 10 ^ k → (kept_digits k n).value < 10 ^ (kept_digits k n).count
unfolding kept_digits
strip_lt zero n h = h
strip_lt (suc k) n h = go (eqb (n % 10) 0) refl (strip_lt k (n / 10) (omega (arith, pow-suc 10 k)))
  where
    go : (b : Bool) → eqb (n % 10) 0 ≡ b → (kept_digits k (n / 10)).value < 10 ^ (kept_digits k (n / 10)).count → (kept_digits (suc k) n).value < 10 ^ (kept_digits (suc k) n).count
    go true e r = rw e r
    go false e r = rw e h

-- a digit is left of a number that is not zero
pub strip_some : (k n : ℕ) → (n ≡ 0 → ⊥) → n < 10 ^ k → 1 ≤ (kept_digits k n).count
strip_some k n nz h = go (kept_digits k n).count (kept_digits k n).value (strip_lt k n h) (given_back k n h)
  where
    go : (c w : ℕ) → w < 10 ^ c → w * 10 ^ (k - c) ≡ n → 1 ≤ c
    go zero w a b =
        let z : w ≡ 0 = omega arith in
        let y : 0 * 10 ^ (k - 0) ≡ n = rw z at b in
        absurd (nz (omega arith))
    go (suc c) w a b = omega arith

pub strip_none : (n k : ℕ) → k ≤ 0 → record { value = n; count = k } ≡ kept_digits k n
unfolding kept_digits
strip_none n zero h = refl
strip_none n (suc k) h = absurd (bad h)
  where
    bad : suc k ≤ 0 → ⊥
    bad q = omega arith

pub strip_zero : (n k : ℕ) → 0 < k → n % 10 ≡ 0 → kept_digits (k - 1) (n / 10) ≡ kept_digits k n
unfolding kept_digits
strip_zero n zero h e = absurd (bad h)
  where
    bad : 0 < 0 → ⊥
    bad q = omega arith
strip_zero n (suc k) h e =
    let d : suc k - 1 ≡ k = omega arith in
    rw (d, eq-eqb (n % 10) 0 e)

pub strip_kept : (n k : ℕ) → (n % 10 ≡ 0 → ⊥) → record { value = n; count = k } ≡ kept_digits k n
unfolding kept_digits
strip_kept n zero e = refl
strip_kept n (suc k) e = rw (ne_eqb (n % 10) 0 e)
