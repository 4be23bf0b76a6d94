-- A year from the stretch of digits that the code has found, with no more of its number than one above the greatest year.
use mathlib.Core.Path.{◌≡◌, sym, ◌∙◌}
use mathlib.Core.Bool.{Bool, true, false}
use mathlib.Core.List.{List}
use Prim.Native.Nat.{ℕ, suc, ◌+◌, ◌-◌, ◌≤◌, ◌<◌, min}
use Prim.Native.Char.{code}
use native.Mathlib.Omega.{arith}
use lib.Dec.{eqb, ltb}
use borrow.Author.Tests.{le-ltb, lt-ltb}
use Rattle.basis.specs.Choice.{both}
use Rattle.value.specs.Bounds.{max_year}
use Rattle.numerals.specs.Reading.{numeral_at, at}
use Rattle.numerals.specs.Carried.{Found}
use Rattle.numerals.specs.declared.DigitsRead.{DigitsRead}
use Rattle.text_scan.specs.Scanning.{four_zeros, year_at}
use Rattle.text_scan.specs.Carried.{capped}

module _ (s : List ℕ) (i : ℕ) (r : DigitsRead) (d : Found s i (max_year + 1) r) where
  count : r.end - i ≡ (numeral_at s i).count
  count = omega (arith, d.ends)

  pub small_year : r.value ≤ max_year + 1
  small_year = omega (arith, d.capped)

  pub short : r.end - i < 4 → record { value = 0; at = r.end; good = false } ≡ year_at capped s i
  unfolding year_at
  short h = rw (lt-ltb (numeral_at s i).count 4 (omega (arith, count)), d.ends)

  module _ (h : 4 ≤ r.end - i) {z : Bool} (ez : z ≡ four_zeros s i) where
    pub all_zeros : z ≡ true → record { value = 0; at = i + 3; good = false } ≡ year_at capped s i
    unfolding year_at
    all_zeros b = rw (le-ltb (numeral_at s i).count 4 (omega (arith, count)), ← ez, b)

    module _ (z0 : z ≡ false) {l : Bool} (el : l ≡ both (ltb 4 (r.end - i)) (eqb (at s i) (code "0"))) where
      pub leads : l ≡ true → record { value = 0; at = i + 4; good = false } ≡ year_at capped s i
      unfolding year_at
      leads b = rw (le-ltb (numeral_at s i).count 4 (omega (arith, count)), ← ez, z0, ← count, ← el, b)

      pub a_year : l ≡ false → record { value = r.value; at = r.end; good = true } ≡ year_at capped s i
      unfolding year_at
      a_year b =
          let f : r.value ≡ min (suc max_year) (numeral_at s i).value = omega (arith, d.capped) in
          let c : both (ltb 4 (numeral_at s i).count) (eqb (at s i) (code "0")) ≡ false = rw count at (sym el ∙ b) in
          rw (le-ltb (numeral_at s i).count 4 (omega (arith, count)), ← ez, z0, c, f, d.ends)
