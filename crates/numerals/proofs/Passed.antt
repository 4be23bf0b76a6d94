-- Bytes that are passed one after the other: that each of them passes a test.
use mathlib.Core.Path.{◌≡◌, refl, ap, ◌∙◌}
use mathlib.Core.Bool.{Bool, true, false}
use mathlib.Core.List.{List}
use Prim.Native.Nat.{ℕ, ◌+◌, ◌<◌}
use native.Mathlib.Omega.{arith}
use lib.Dec.{eqb, ltb}
use borrow.Author.Tests.{eqb-true, ltb-true, ltb-false}
use Rattle.numerals.specs.Reading.{is_digit, numeral_at, at}
use Rattle.numerals.proofs.Stretches.{stretch_digit}

-- every byte of a text before an offset passes the test
abbrev pub Passed : (ℕ → Bool) → List ℕ → ℕ → Type 0
Passed ok s i = (j : ℕ) → j < i → ok (at s j) ≡ true

-- before the first byte there is none
pub passed_none : (ok : ℕ → Bool) (s : List ℕ) → Passed ok s 0
passed_none ok s j h = absurd (bad h)
  where
    bad : j < 0 → ⊥
    bad q = omega arith

module _ (ok : ℕ → Bool) (s : List ℕ) where
  -- one byte more
  pub passed_byte : (i : ℕ) → ok (at s i) ≡ true → Passed ok s i → Passed ok s (i + 1)
  passed_byte i e a j h = go (ltb j i) refl
    where
      go : (b : Bool) → ltb j i ≡ b → ok (at s j) ≡ true
      go true q = a j (ltb-true j i q)
      go false q =
          let n : j ≡ i = omega (arith, ltb-false j i q) in
          ap (λ (k : ℕ). ok (at s k)) n ∙ e

  -- a byte that is known
  pub passed_mark : (i c : ℕ) → eqb (at s i) c ≡ true → ok c ≡ true → Passed ok s i → Passed ok s (i + 1)
  passed_mark i c q e = passed_byte i (ap ok (eqb-true (at s i) c q) ∙ e)

  -- a stretch of digits
  pub passed_digits : ((b : ℕ) → is_digit b ≡ true → ok b ≡ true) → (i : ℕ) → Passed ok s i → Passed ok s (i + (numeral_at s i).count)
  passed_digits f i a j h = go (ltb j i) refl
    where
      go : (b : Bool) → ltb j i ≡ b → ok (at s j) ≡ true
      go true q = a j (ltb-true j i q)
      go false q = f (at s j) (stretch_digit s i j (ltb-false j i q) h)
