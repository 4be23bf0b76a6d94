-- Every month has a day.
use mathlib.Core.Path.{◌≡◌, refl}
use mathlib.Core.Bool.{Bool, true}
use mathlib.Core.List.{List, ◌∷◌, []}
use Prim.Native.Nat.{ℕ, zero, suc, ◌-◌, ◌≤◌, ◌<◌}
use native.Mathlib.Omega.{arith}
use native.Mathlib.Nat.{le_of_suc-le-suc, not-suc-le-zero}
use lib.Dec.{leb}
use lib.ListN.{get_or, length}
use borrow.Author.Tests.{leb-true}
use Rattle.basis.specs.Choice.{both}
use Rattle.basis.proofs.Tests.{both_left, both_right}
use Rattle.calendar.specs.Calendar.{months, month_row, month_days, month_count, leap_row}
use Rattle.calendar.proofs.Leap.{leap_le}

unfoldable filled : List ℕ → Bool
filled [] = true
filled (x ∷ xs) = both (leb 1 x) (filled xs)

filled_at : (xs : List ℕ) → filled xs ≡ true → (k : ℕ) → k < length xs → 1 ≤ get_or xs k 0
unfolding filled
filled_at [] e k h = absurd (not-suc-le-zero h)
filled_at (x ∷ xs) e zero h = leb-true 1 x (both_left _ _ e)
filled_at (x ∷ xs) e (suc k) h = filled_at xs (both_right _ _ e) k (le_of_suc-le-suc h)

row_filled : (r k : ℕ) → r ≤ 1 → k < month_count → 1 ≤ month_row r k
unfolding filled both
row_filled zero k h l = filled_at (get_or months 0 []) refl k l
row_filled (suc zero) k h l = filled_at (get_or months 1 []) refl k l
row_filled (suc (suc r)) k h l = absurd (not-suc-le-zero (le_of_suc-le-suc h))

pub month_has_day : (y m : ℕ) → 1 ≤ m → m ≤ month_count → 1 ≤ month_days y m
month_has_day y m h l = row_filled (leap_row y) (m - 1) (leap_le y) (omega arith)
