-- The shortest and the longest month: February is the shortest of a row, an ordinary row is below a leap one, and a
-- row whose February has 29 days is the leap row.
use mathlib.Core.Path.{◌≡◌, refl}
use mathlib.Core.Bool.{Bool, true, false}
use mathlib.Core.List.{List, [], ◌∷◌}
use Prim.Native.Nat.{ℕ, zero, suc, ◌-◌, ◌≤◌, ◌<◌}
use native.Mathlib.Omega.{arith}
use lib.Dec.{T, leb, leb→le}
use lib.ListN.{get_or, length}
use Rattle.calendar.specs.Calendar.{months, month_row, month_days, leap_row}
use Rattle.calendar.proofs.Leap.{leap_le}

-- a row's numbers from one on, and a row below another
abbrev at_least : ℕ → List ℕ → Bool
at_least b [] = true
at_least b (x ∷ xs) = elim (leb b x) [ true ↦ at_least b xs | false ↦ false ]

least : (b : ℕ) (xs : List ℕ) → T (at_least b xs) → (k : ℕ) → k < length xs → b ≤ get_or xs k 0
least b [] t k h = absurd (none k h)
  where
    none : (k : ℕ) → k < 0 → ⊥
    none k g = omega arith
least b (x ∷ xs) t k h = go k (leb b x) refl t h (least b xs)
  where
    go : (k : ℕ) (d : Bool) → leb b x ≡ d → T (elim d [ true ↦ at_least b xs | false ↦ false ]) → k < length (x ∷ xs)
        → (T (at_least b xs) → (k : ℕ) → k < length xs → b ≤ get_or xs k 0) → b ≤ get_or (x ∷ xs) k 0
    go zero true e u h r = leb→le b x (rw e tt)
    go (suc k) true e u h r = r u k (omega arith)
    go k false e u h r = absurd u

abbrev pairs : List ℕ → List ℕ → Bool
pairs [] ys = true
pairs (x ∷ xs) [] = false
pairs (x ∷ xs) (y ∷ ys) = elim (leb x y) [ true ↦ pairs xs ys | false ↦ false ]

below : (xs ys : List ℕ) → T (pairs xs ys) → (k : ℕ) → get_or xs k 0 ≤ get_or ys k 0
below [] ys t k = omega arith
below (x ∷ xs) [] t k = absurd t
below (x ∷ xs) (y ∷ ys) t k = go k (leb x y) refl t (below xs ys)
  where
    go : (k : ℕ) (d : Bool) → leb x y ≡ d → T (elim d [ true ↦ pairs xs ys | false ↦ false ]) → (T (pairs xs ys) → (k : ℕ) → get_or xs k 0 ≤ get_or ys k 0)
        → get_or (x ∷ xs) k 0 ≤ get_or (y ∷ ys) k 0
    go zero true e u r = leb→le x y (rw e tt)
    go (suc k) true e u r = r u k
    go k false e u r = absurd u

february : (r k : ℕ) → r ≤ 1 → k < 12 → month_row r 1 ≤ month_row r k
february zero k h l = least 28 (get_or months 0 []) tt k l
february (suc zero) k h l = least 29 (get_or months 1 []) tt k l
february (suc (suc r)) k h l = absurd (bad h)
  where
    bad : suc (suc r) ≤ 1 → ⊥
    bad g = omega arith

ordinary : (r k : ℕ) → r ≤ 1 → month_row 0 k ≤ month_row r k
ordinary zero k h = omega arith
ordinary (suc zero) k h = below (get_or months 0 []) (get_or months 1 []) tt k
ordinary (suc (suc r)) k h = absurd (bad h)
  where
    bad : suc (suc r) ≤ 1 → ⊥
    bad g = omega arith

leap : (r q k : ℕ) → r ≤ 1 → q ≤ 1 → 29 ≤ month_row r 1 → month_row q k ≤ month_row r k
leap zero q k h l f = absurd (bad f)
  where
    bad : 29 ≤ month_row 0 1 → ⊥
    bad g = omega arith
leap (suc zero) zero k h l f = below (get_or months 0 []) (get_or months 1 []) tt k
leap (suc zero) (suc zero) k h l f = omega arith
leap (suc zero) (suc (suc q)) k h l f = absurd (bad l)
  where
    bad : suc (suc q) ≤ 1 → ⊥
    bad g = omega arith
leap (suc (suc r)) q k h l f = absurd (bad h)
  where
    bad : suc (suc r) ≤ 1 → ⊥
    bad g = omega arith

-- of years and months
pub february_shortest : (y m : ℕ) → 1 ≤ m → m ≤ 12 → month_days y 2 ≤ month_days y m
february_shortest y m h l = february (leap_row y) (m - 1) (leap_le y) (omega arith)

pub ordinary_shortest : (y m : ℕ) → month_days 1 m ≤ month_days y m
ordinary_shortest y m = ordinary (leap_row y) (m - 1) (leap_le y)

pub leap_longest : (y z m : ℕ) → 29 ≤ month_days y 2 → month_days z m ≤ month_days y m
leap_longest y z m f = leap (leap_row y) (leap_row z) (m - 1) (leap_le y) (leap_le z) f
