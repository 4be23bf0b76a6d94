-- The table of the months: no month has more than 31 days, the twelve of a row make up its year, and the walk of the
-- months finds the one date of a day in its year.
use mathlib.Core.Path.{◌≡◌, refl, ap, sym, ◌∙◌}
use mathlib.Core.Bool.{Bool, true, false}
use mathlib.Core.List.{List, [], ◌∷◌}
use Prim.Native.Nat.{ℕ, zero, suc, ◌+◌, ◌-◌, ◌*◌, ◌≤◌, ◌<◌}
use native.Mathlib.Omega.{arith}
use lib.Dec.{T, leb, leb→le}
use lib.ListN.{get_or}
use Rattle.calendar.specs.declared.Date.{Date}
use Rattle.calendar.specs.Calendar.{total, period_of, Period, year_days, month_row, months, month_count, leap_row, date_within, GoodDate}
use Rattle.calendar.proofs.Leap.{leap_le}
use Rattle.calendar.proofs.Periods.{total_zero, total_suc, total_le, total_grows, placed, found_first, Found, below}

abbrev small : ℕ → List ℕ → Bool
small b [] = true
small b (x ∷ xs) = elim (leb x b) [ true ↦ small b xs | false ↦ false ]

get_d_le : (b : ℕ) (xs : List ℕ) → T (small b xs) → (k : ℕ) → get_or xs k 0 ≤ b
get_d_le b [] t k = omega arith
get_d_le b (x ∷ xs) t k = go k (leb x b) refl t (get_d_le b xs)
  where
    go : (k : ℕ) (d : Bool) → leb x b ≡ d → T (elim d [ true ↦ small b xs | false ↦ false ]) → (T (small b xs) → (k : ℕ) → get_or xs k 0 ≤ b)
        → get_or (x ∷ xs) k 0 ≤ b
    go zero true e u r = leb→le x b (rw e tt)
    go (suc k) true e u r = r u k
    go k false e u r = absurd u

pub month_le : (r k : ℕ) → month_row r k ≤ 31
month_le zero k = get_d_le 31 (get_or months 0 []) tt k
month_le (suc zero) k = get_d_le 31 (get_or months 1 []) tt k
month_le (suc (suc r)) k = omega arith

pub months_le : (r m : ℕ) → total (month_row r) m ≤ 31 * m
months_le r m = total_le (month_row r) 31 (month_le r) m

row_days : (r : ℕ) → r ≤ 1 → total (month_row r) month_count ≡ 365 + r
unfolding total
row_days zero h = refl
row_days (suc zero) h = refl
row_days (suc (suc r)) h = absurd (bad h)
  where
    bad : suc (suc r) ≤ 1 → ⊥
    bad g = omega arith

pub year_months : (y : ℕ) → total (month_row (leap_row y)) month_count ≡ year_days y
year_months y = row_days (leap_row y) (leap_le y)

-- the days of the months before the next one, months counted from 1
pub next_month : (f : ℕ → ℕ) (m : ℕ) → 1 ≤ m → total f (m + 1 - 1) ≡ total f (m - 1) + f (m - 1)
next_month f m h =
    let e : m + 1 - 1 ≡ suc (m - 1) = omega arith in
    rw e (total_suc f (m - 1))

-- a walk of the months that is still within the year has not passed the last one
pub month_in : (y m left k : ℕ) → total (month_row (leap_row y)) (m - 1) + left ≡ k → k < year_days y → m ≤ month_count
month_in y m left k e h =
    let lt : m - 1 < month_count = below (month_row (leap_row y)) (m - 1) month_count left (omega (arith, year_months y)) in
    omega arith

-- the one date of a day in its year
pub dated_in : (y k m l : ℕ) → k < year_days y → 1 ≤ m → l < month_row (leap_row y) (m - 1)
    → total (month_row (leap_row y)) (m - 1) + l ≡ k
    → record { year = y; month = m; day = l + 1 } ≡ date_within (record { number = y; left = k })
dated_in y k m l hk hm hl el =
    let e : m - 1 + 1 ≡ m = omega arith in
    let p : period_of (month_row (leap_row y)) month_count 0 k ≡ record { number = m - 1; left = l } = placed (month_row (leap_row y)) month_count k (m - 1) l (omega (arith, year_months y)) hl el in
    sym (ap (λ (q : Period). record { year = y; month = q.number + 1; day = q.left + 1 }) p
    ∙ ap (λ (x : ℕ). record { year = y; month = x; day = l + 1 }) e)

-- a good date's day lies within its year
pub in_year : (d : Date) → GoodDate d → total (month_row (leap_row d.year)) (d.month - 1) + (d.day - 1) < year_days d.year
in_year d g =
    let f : ℕ → ℕ = month_row (leap_row d.year) in
    let s : total f (suc (d.month - 1)) ≡ total f (d.month - 1) + f (d.month - 1) = total_suc f (d.month - 1) in
    let m : total f (suc (d.month - 1)) ≤ total f month_count = total_grows f (suc (d.month - 1)) month_count (omega (arith, g.month_from, g.month_to)) in
    omega (arith, year_months d.year, g.day_from, g.day_to)

-- the date of a day in its year is a good one, and has the day's number there
pub record InYear (k : ℕ) (d : Date) : Type 0 where
  pub good : GoodDate d
  pub number : total (month_row (leap_row d.year)) (d.month - 1) + (d.day - 1) ≡ k

pub date_in_year : (y k : ℕ) → k < year_days y → InYear k (date_within (record { number = y; left = k }))
date_in_year y k h =
    let f : ℕ → ℕ = month_row (leap_row y) in
    let m : Period = period_of f month_count 0 k in
    let z : total f 0 ≡ 0 = total_zero f in
    let sum : total f month_count ≡ year_days y = year_months y in
    let q : Found f 0 k m = found_first f month_count k (omega arith) in
    let lt : m.number < month_count = below f m.number month_count m.left (omega (arith, q.same)) in
    let e : m.number + 1 - 1 ≡ m.number = omega arith in
    let e2 : total f (m.number + 1 - 1) ≡ total f m.number = ap (total f) e in
    let e3 : f (m.number + 1 - 1) ≡ f m.number = ap f e in
    record {
      good = record { month_from = omega arith; month_to = omega arith; day_from = omega arith; day_to = omega (arith, q.within) };
      number = omega (arith, q.same);
    }
