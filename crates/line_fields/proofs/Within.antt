-- A number that is read digit by digit, and left as soon as it is beyond its bound, is the number of the whole stretch of digits.
use mathlib.Core.Path.{◌≡◌, refl, ap, sym, ◌∙◌}
use mathlib.Core.Bool.{Bool, true, false, ◌&&◌}
use mathlib.Core.List.{List, [], ◌∷◌}
use Prim.Native.Nat.{ℕ, suc, ◌+◌, ◌-◌, ◌*◌, ◌≤◌, ◌<◌}
use native.Mathlib.Numerals.{add-one}
use native.Mathlib.Omega.{arith}
use borrow.Author.Tests.{le-leb, lt-leb, eq-eqb, ne_eqb}
use lib.Dec.{eqb, leb}
use lib.ListN.{length, get_or, drop, drop_of_length-le}
use lib.Seq.{drop-cons}
use Rattle.std.specs.Char.{is_ascii_digit}
use Rattle.basis.specs.Choice.{pick, both}
use Rattle.numerals.specs.Reading.{is_digit, number, numeral_at}
use Rattle.numerals.specs.Reading as reading
use Rattle.line_fields.specs.Numbers.{max_number_digits, whole_within, number_of}
use Rattle.std.specs.Prelude.{Option, Some, None}

-- the number of a stretch is no less than that of its first digits
grows : (v k : ℕ) (xs : List ℕ) → v ≤ (number v k xs).value
unfolding number
grows v k [] = omega arith
grows v k (x ∷ xs) = go (is_digit x) (grows (v * 10 + (x - 48)) (suc k) xs)
  where
    go : (b : Bool) → v * 10 + (x - 48) ≤ (number (v * 10 + (x - 48)) (suc k) xs).value
        → v ≤ (pick b (number (v * 10 + (x - 48)) (suc k) xs) (record { value = v; count = k })).value
    go true h = omega arith
    go false h = omega arith

-- what the library calls a digit is one
pub is_digit_by : (b : ℕ) {t u : Bool} → t ≡ is_ascii_digit b → t ≡ u → is_digit b ≡ u
unfolding is_digit both
is_digit_by b e h = go (leb 48 b) (leb b 57) ∙ sym e ∙ h
  where
    go : (x y : Bool) → both x y ≡ (x && y)
    go true y = refl
    go false y = refl

-- ---- the loop: the first i digits were passed, and v is their number
pub record Passed (s : List ℕ) (most i v : ℕ) : Type 0 where
  pub low : v ≤ most
  pub rest : number v i (drop i s) ≡ numeral_at s 0

pub too_short : (s : List ℕ) (most : ℕ) → length s < 1 → number_of most s ≡ None
unfolding number_of
too_short s most h = rw (lt-leb 1 (length s) h)

module _ (s : List ℕ) (most : ℕ) (some : 1 ≤ length s) where
  pub too_long : max_number_digits < length s → number_of most s ≡ None
  unfolding number_of
  too_long h = rw (le-leb 1 (length s) some, lt-leb (length s) max_number_digits h)

  module _ (few : length s ≤ max_number_digits) where
    is_stretch : number_of most s ≡ whole_within most (length s) (numeral_at s 0)
    unfolding number_of
    is_stretch = rw (le-leb 1 (length s) some, le-leb (length s) max_number_digits few)

    module _ {i v : ℕ} (p : Passed s most i v) where
      next_stretch : i < length s → is_digit (get_or s i 0) ≡ true → number (v * 10 + (get_or s i 0 - 48)) (i + 1) (drop (i + 1) s) ≡ numeral_at s 0
      unfolding number
      next_stretch h e =
          let r : number v i (get_or s i 0 ∷ drop (suc i) s) ≡ numeral_at s 0 = rw (drop-cons s i 0 h) at p.rest in
          let r2 : number (v * 10 + (get_or s i 0 - 48)) (suc i) (drop (suc i) s) ≡ numeral_at s 0 = rw (e, number) at r in
          rw add-one r2

      pub next : i < length s → is_digit (get_or s i 0) ≡ true → (w : ℕ) → w ≡ v * 10 + (get_or s i 0 - 48) → w ≤ most → Passed s most (i + 1) w
      next h d w e l = record { low = l; rest = ap (λ (x : ℕ). number x (i + 1) (drop (i + 1) s)) e ∙ next_stretch h d }

      pub at_other : i < length s → is_digit (get_or s i 0) ≡ false → number_of most s ≡ None
      unfolding number whole_within
      at_other h e =
          let r : number v i (get_or s i 0 ∷ drop (suc i) s) ≡ numeral_at s 0 = rw (drop-cons s i 0 h) at p.rest in
          let r2 : record { value = v; count = i } ≡ numeral_at s 0 = rw (e, number) at r in
          is_stretch ∙ ap (whole_within most (length s)) (sym r2) ∙ rw (ne_eqb i (length s) (λ q. omega arith))

      pub too_great : i < length s → is_digit (get_or s i 0) ≡ true → most < v * 10 + (get_or s i 0 - 48) → number_of most s ≡ None
      unfolding whole_within
      too_great h e l =
          let g = grows (v * 10 + (get_or s i 0 - 48)) (i + 1) (drop (i + 1) s) in
          let r = ap (λ (n : reading.Number). n.value) (next_stretch h e) in
          is_stretch ∙ rw (lt-leb (numeral_at s 0).value most (omega arith)) (either (eqb (numeral_at s 0).count (length s)))
        where
          either : (b : Bool) → ◌≡◌ {A = Option ℕ} (pick b None None) None
          either true = refl
          either false = refl

      pub at_end : i ≤ length s → length s ≤ i → number_of most s ≡ Some v
      unfolding number whole_within
      at_end q h =
          let r : record { value = v; count = i } ≡ numeral_at s 0 = rw (drop_of_length-le s h, number) at p.rest in
          is_stretch ∙ ap (whole_within most (length s)) (sym r) ∙ rw (eq-eqb i (length s) (omega arith), le-leb v most p.low)
