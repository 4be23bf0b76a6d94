-- No part is found past the text's end: from an offset within the text every letter of a layout leads to another.
use mathlib.Core.Path.{◌≡◌, refl}
use mathlib.Core.Bool.{Bool, true, false}
use mathlib.Core.List.{List}
use Prim.Native.Nat.{ℕ, ◌+◌, ◌≤◌, ◌<◌}
use Prim.Native.Char.{code}
use native.Mathlib.Omega.{arith}
use lib.Dec.{eqb, ltb}
use lib.ListN.{length}
use borrow.Author.Tests.{ltb-false, eqb-true}
use Rattle.basis.specs.Choice.{both}
use Rattle.numerals.specs.Reading.{is_digit, Number, numeral_at, at, fraction_at}
use Rattle.numerals.specs.declared.Fraction.{Fraction}
use Rattle.numerals.proofs.Positions.{within}
use Rattle.numerals.proofs.Stretches.{digit_within, stretch_le}
use Rattle.numerals.proofs.Fractions.{fraction_le}
use Rattle.text_scan.specs.Scanning.{Scan, Pair, four_zeros, pair_at, year_at, year_is, year_part, fraction_part, fraction_is, zone_part, zone_signed, zone_hours, zone_minutes, with_pair, part_at, scanned_part, is_pair}
use Rattle.text_scan.proofs.Ways.{on, off}

module _ (s : List ℕ) (i : ℕ) where
  pub pair_le : i ≤ length s → (pair_at s i).at ≤ length s
  unfolding pair_at
  pair_le h = go (is_digit (at s i)) (is_digit (at s (i + 1))) refl refl
    where
      go : (a b : Bool) → is_digit (at s i) ≡ a → is_digit (at s (i + 1)) ≡ b → (pair_at s i).at ≤ length s
      go false b p q = rw p h
      go true true p q = rw (p, q) (omega (arith, digit_within s (i + 1) q))
      go true false p q = rw (p, q) (omega (arith, digit_within s i p))

module _ (keep : ℕ → ℕ) (s : List ℕ) (i : ℕ) where
  year_is_le : (n : Number) → i + n.count ≤ length s → (year_is keep s i n).at ≤ length s
  year_is_le n h = go (ltb n.count 4) (four_zeros s i) (both (ltb 4 n.count) (eqb (at s i) (code "0"))) refl refl refl
    where
      go : (a b c : Bool) → ltb n.count 4 ≡ a → four_zeros s i ≡ b
          → both (ltb 4 n.count) (eqb (at s i) (code "0")) ≡ c → (year_is keep s i n).at ≤ length s
      go true b c e f g = rw e h
      go false true c e f g = rw (e, f) (omega (arith, ltb-false n.count 4 e))
      go false false true e f g = rw (e, f, g) (omega (arith, ltb-false n.count 4 e))
      go false false false e f g = rw (e, f, g) h

  year_le : i ≤ length s → (year_at keep s i).at ≤ length s
  unfolding year_at
  year_le h = year_is_le (numeral_at s i) (stretch_le s i h)

module _ (s : List ℕ) (t : Scan) (h : t.at ≤ length s) where
  fraction_is_le : (i : ℕ) (f : Fraction) → i ≤ length s → f.end ≤ length s → (fraction_is t i f).at ≤ length s
  fraction_is_le i f k l = go (eqb f.end i) refl
    where
      go : (b : Bool) → eqb f.end i ≡ b → (fraction_is t i f).at ≤ length s
      go true e = rw e k
      go false e = rw e l

  fraction_part_le : (fraction_part s t).at ≤ length s
  unfolding fraction_part
  fraction_part_le = go (eqb (at s t.at) (code ".")) refl
    where
      go : (b : Bool) → eqb (at s t.at) (code ".") ≡ b → (fraction_part s t).at ≤ length s
      go true e =
          let w : t.at + 1 ≤ length s = omega (arith, within s t.at (code ".") (eqb-true _ _ e) (omega arith)) in
          rw e (fraction_is_le (t.at + 1) (fraction_at s (t.at + 1)) w (fraction_le s (t.at + 1) w))
      go false e = rw e h

  signed_le : (z : ℕ) → t.at < length s → (zone_signed s t z).at ≤ length s
  unfolding zone_signed
  signed_le z k = go (pair_at s (t.at + 1)) (pair_le s (t.at + 1) (omega arith))
    where
      minutes : (p m : Pair) → m.at ≤ length s → (zone_minutes t z p m).at ≤ length s
      minutes p m l = by m.good refl
        where
          by : (b : Bool) → m.good ≡ b → (zone_minutes t z p m).at ≤ length s
          by true e = rw e l
          by false e = rw e l

      go : (p : Pair) → p.at ≤ length s → (zone_hours s t z p).at ≤ length s
      go p l = by p.good (eqb (at s p.at) (code ":")) refl refl
        where
          by : (a b : Bool) → p.good ≡ a → eqb (at s p.at) (code ":") ≡ b → (zone_hours s t z p).at ≤ length s
          by false b e f = rw e l
          by true false e f = rw (e, f) l
          by true true e f = rw (e, f) (minutes p (pair_at s (p.at + 1)) (pair_le s (p.at + 1) (omega (arith, within s p.at (code ":") (eqb-true _ _ f) (omega arith)))))

  zone_part_le : (zone_part s t).at ≤ length s
  unfolding zone_part
  zone_part_le = go (eqb (length s) t.at) (eqb (at s t.at) (code "Z")) (eqb (at s t.at) (code "+")) (eqb (at s t.at) (code "-")) refl refl refl refl
    where
      go : (a b c d : Bool) → eqb (length s) t.at ≡ a → eqb (at s t.at) (code "Z") ≡ b → eqb (at s t.at) (code "+") ≡ c → eqb (at s t.at) (code "-") ≡ d
          → (zone_part s t).at ≤ length s
      go true b c d e f g k = rw e h
      go false true c d e f g k = rw (e, f) (omega (arith, within s t.at (code "Z") (eqb-true _ _ f) (omega arith)))
      go false false true d e f g k = rw (e, f, g) (signed_le (code "+") (within s t.at (code "+") (eqb-true _ _ g) (omega arith)))
      go false false false true e f g k = rw (e, f, g, k) (signed_le (code "-") (within s t.at (code "-") (eqb-true _ _ k) (omega arith)))
      go false false false false e f g k = rw (e, f, g, k) h

module _ (keep : ℕ → ℕ) (s : List ℕ) (t : Scan) (h : t.at ≤ length s) where
  year_part_le : (year_part keep s t).at ≤ length s
  unfolding year_part
  year_part_le = go (eqb (at s t.at) (code "-")) refl
    where
      go : (b : Bool) → eqb (at s t.at) (code "-") ≡ b → (year_part keep s t).at ≤ length s
      go true e = rw e (year_le keep s (t.at + 1) (omega (arith, within s t.at (code "-") (eqb-true _ _ e) (omega arith))))
      go false e = rw e (year_le keep s t.at h)

  -- a byte that stands for itself is no 0, or it would be found past the end
  pub part_le : (p : ℕ) → 1 ≤ p → (scanned_part keep p s t).at ≤ length s
  unfolding part_at with_pair
  part_le p hp = good t.good refl
    where
      go : (a b c d x : Bool) → eqb p (code "Y") ≡ a → eqb p (code "f") ≡ b → eqb p (code "z") ≡ c → is_pair p ≡ d → eqb (at s t.at) p ≡ x → (part_at keep p s t).at ≤ length s
      go true b c d x e f i j k = rw e year_part_le
      go false true c d x e f i j k = rw (e, f) (fraction_part_le s t h)
      go false false true d x e f i j k = rw (e, f, i) (zone_part_le s t h)
      go false false false true x e f i j k = rw (e, f, i, j) (pair_le s t.at h)
      go false false false false true e f i j k = rw (e, f, i, j, k) (omega (arith, within s t.at p (eqb-true _ _ k) hp))
      go false false false false false e f i j k = rw (e, f, i, j, k) h

      good : (b : Bool) → t.good ≡ b → (scanned_part keep p s t).at ≤ length s
      good true e = rw (on keep p s t e) (go (eqb p (code "Y")) (eqb p (code "f")) (eqb p (code "z")) (is_pair p) (eqb (at s t.at) p) refl refl refl refl refl)
      good false e = rw (off keep p s t e) h
