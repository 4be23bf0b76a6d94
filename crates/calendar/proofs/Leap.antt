-- A year has one of the two rows of month lengths, so 365 days or 366. The leap rule as a count of multiples, and that it
-- repeats after a cycle.
use mathlib.Core.Path.{◌≡◌, refl}
use mathlib.Core.Bool.{Bool, true, false}
use Prim.Native.Nat.{ℕ, ◌+◌, ◌≤◌, ◌%◌}
use lib.Dec.{eqb, lit≤}
use native.Mathlib.Omega.{arith}
use borrow.Author.Tests.{eqb-true, eqb-false}
use Rattle.basis.specs.Choice.{pick}
use Rattle.calendar.specs.Calendar.{leap_row, year_days}
use Rattle.calendar.specs.Cycle.{cycle_years}

rows : (a b d : Bool) → pick a 1 (pick b 0 (pick d 1 0)) ≤ 1
rows true b d = lit≤ tt
rows false true d = lit≤ tt
rows false false true = lit≤ tt
rows false false false = lit≤ tt

by_divisors : (y k l m : ℕ) → pick (eqb (y % k) 0) 1 (pick (eqb (y % l) 0) 0 (pick (eqb (y % m) 0) 1 0)) ≤ 1
by_divisors y k l m = rows (eqb (y % k) 0) (eqb (y % l) 0) (eqb (y % m) 0)

pub leap_le : (y : ℕ) → leap_row y ≤ 1
leap_le y = by_divisors y _ _ _

pub year_le : (y : ℕ) → year_days y ≤ 366
year_le y = omega (arith, leap_le y)

pub year_has_day : (y : ℕ) → 1 ≤ year_days y
year_has_day y = omega arith

-- 1 for a multiple of k, 0 for any other number
abbrev pub multiple : ℕ → ℕ → ℕ
multiple k y = pick (eqb (y % k) 0) 1 0

-- a leap day for a multiple of 4, none after all for a multiple of 100, one again for a multiple of 400
pub leap_counts : (y : ℕ) → leap_row y + multiple 100 y ≡ multiple 4 y + multiple 400 y
leap_counts y = go (eqb (y % 400) 0) (eqb (y % 100) 0) (eqb (y % 4) 0) refl refl refl
  where
    by_400 : y % 400 ≡ 0 → (y % 100 ≡ 0 → ⊥) → ⊥
    by_400 h g = omega arith

    by_100 : y % 100 ≡ 0 → (y % 4 ≡ 0 → ⊥) → ⊥
    by_100 h g = omega arith

    go : (a b d : Bool) → eqb (y % 400) 0 ≡ a → eqb (y % 100) 0 ≡ b → eqb (y % 4) 0 ≡ d
        → pick a 1 (pick b 0 (pick d 1 0)) + pick b 1 0 ≡ pick d 1 0 + pick a 1 0
    go true true true ea eb ed = refl
    go false true true ea eb ed = refl
    go false false true ea eb ed = refl
    go false false false ea eb ed = refl
    go true false d ea eb ed = absurd (by_400 (eqb-true _ _ ea) (eqb-false _ _ eb))
    go a true false ea eb ed = absurd (by_100 (eqb-true _ _ eb) (eqb-false _ _ ed))

pub leap_repeats : (y : ℕ) → leap_row (y + cycle_years) ≡ leap_row y
leap_repeats y =
    let by_400 : (y + cycle_years) % 400 ≡ y % 400 = omega arith in
    let by_100 : (y + cycle_years) % 100 ≡ y % 100 = omega arith in
    let by_4 : (y + cycle_years) % 4 ≡ y % 4 = omega arith in
    λ i. pick (eqb (by_400 i) 0) 1 (pick (eqb (by_100 i) 0) 0 (pick (eqb (by_4 i) 0) 1 0))
