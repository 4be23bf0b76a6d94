-- The theorems of specs/Cycle.antt: any 400 years in a row, the sum over the years by divisions, and the year of a day
-- number by divisions.
use mathlib.Core.Path.{◌≡◌, refl, ap, sym, ◌∙◌}
use mathlib.Core.Bool.{Bool, true, false}
use Prim.Native.Nat.{ℕ, zero, suc, ◌+◌, ◌-◌, ◌*◌, ◌/◌, ◌%◌, ◌≤◌, ◌<◌}
use native.Mathlib.Nat.{zero-add, zero-mul, suc-add, mod-lt, div-add-mod, add-div_right, mul-add-div, div-eq_of_lt}
use native.Mathlib.Omega.{arith}
use lib.Dec.{eqb, leb, ltb}
use borrow.Author.Tests.{eqb-true, eqb-false, leb-true, leb-false, ltb-true, ltb-false, lt-ltb, le-ltb}
use Rattle.basis.specs.Choice.{pick}
use Rattle.calendar.specs.Calendar.{leap_row, year_days, total, date_of, period_of, Period}
use Rattle.calendar.specs.Cycle.{cycle_years, cycle_days, AnyCycle, ordinary_year_days, LeapDays, before_by_cycle, SumByCycle, leap_year_days, early_year, EarlyYear, year_by_cycle, HoldsDay, YearByCycle, OneYear, WalkByCycle}
use Rattle.calendar.proofs.Leap.{multiple, leap_counts, leap_repeats, year_le}
use Rattle.calendar.proofs.Periods.{total_zero, total_suc, total_adds, total_le, below, one_period, Found}
use Rattle.calendar.proofs.Years.{years_le, years_next, years_grow, year_found}

-- ---- any 400 years in a row

first_cycle : total year_days cycle_years ≡ cycle_days
unfolding total
first_cycle = refl

-- a cycle on from any year
cycle_on : (y : ℕ) → total year_days (y + cycle_years) ≡ total year_days y + cycle_days
cycle_on zero = first_cycle ∙ omega (arith, total_zero year_days)
cycle_on (suc y) =
    let r : leap_row (y + cycle_years) ≡ leap_row y = leap_repeats y in
    ap (total year_days) (suc-add y cycle_years) ∙ omega (arith, total_suc year_days (y + cycle_years), total_suc year_days y, cycle_on y)

pub any_cycle : AnyCycle
any_cycle y = omega (arith, total_adds year_days y cycle_years, cycle_on y)

-- whole cycles, then the years after them
whole_cycles : (c y : ℕ) → total year_days (c * cycle_years + y) ≡ c * cycle_days + total year_days y
whole_cycles zero y = simp (zero-mul, zero-add)
whole_cycles (suc c) y =
    let e : suc c * cycle_years + y ≡ c * cycle_years + y + cycle_years = omega arith in
    ap (total year_days) e ∙ omega (arith, cycle_on (c * cycle_years + y), whole_cycles c y)

-- ---- the days before a year

-- the multiples of k below y, 0 among them
abbrev multiples_below : ℕ → ℕ → ℕ
multiples_below k y = (y + (k - 1)) / k

one_more : (k y : ℕ) → 0 < k → multiples_below k (suc y) ≡ multiples_below k y + multiple k y
one_more k y h = after ∙ go (eqb (y % k) 0) refl
  where
    q : ℕ
    q = y / k

    after : multiples_below k (suc y) ≡ q + 1
    after =
        let e : suc y + (k - 1) ≡ y + k = omega arith in
        ap (λ (x : ℕ). x / k) e ∙ add-div_right y h

    go : (b : Bool) → eqb (y % k) 0 ≡ b → q + 1 ≡ multiples_below k y + pick b 1 0
    go true t =
        let r : y % k ≡ 0 = eqb-true _ _ t in
        let e : y + (k - 1) ≡ k * q + (k - 1) = omega (arith, div-add-mod y k) in
        let d : multiples_below k y ≡ q + (k - 1) / k = ap (λ (x : ℕ). x / k) e ∙ mul-add-div h q (k - 1) in
        let z : (k - 1) / k ≡ 0 = div-eq_of_lt (omega arith) in
        omega arith
    go false t =
        let r : (y % k ≡ 0 → ⊥) = eqb-false _ _ t in
        let e : y + (k - 1) ≡ k * q + (y % k - 1) + k = omega (arith, div-add-mod y k) in
        let d : multiples_below k y ≡ (k * q + (y % k - 1)) / k + 1 = ap (λ (x : ℕ). x / k) e ∙ add-div_right (k * q + (y % k - 1)) h in
        let s : (k * q + (y % k - 1)) / k ≡ q + (y % k - 1) / k = mul-add-div h q (y % k - 1) in
        let z : (y % k - 1) / k ≡ 0 = div-eq_of_lt (omega (arith, mod-lt y h)) in
        omega arith

multiples_counted : (k : ℕ) → 0 < k → (y : ℕ) → multiples_below k y ≡ total (multiple k) y
unfolding total
multiples_counted k h zero = div-eq_of_lt (omega arith)
multiples_counted k h (suc y) = omega (arith, one_more k y h, multiples_counted k h y)

counts_add : (y : ℕ) → total leap_row y + total (multiple 100) y ≡ total (multiple 4) y + total (multiple 400) y
unfolding total
counts_add zero = refl
counts_add (suc y) = omega (arith, counts_add y, leap_counts y)

-- so that no difference is cut off at 0
fewer : (y : ℕ) → (y + 99) / 100 ≤ (y + 3) / 4
fewer y = omega arith

pub leap_days_lem : LeapDays
leap_days_lem y =
    omega
    (arith, counts_add y, fewer y, multiples_counted 4 (omega arith) y, multiples_counted 100 (omega arith) y, multiples_counted 400 (omega arith) y)

days_and_leap_days : (y : ℕ) → ordinary_year_days * y + total leap_row y ≡ total year_days y
unfolding total
days_and_leap_days zero = refl
days_and_leap_days (suc y) = omega (arith, days_and_leap_days y)

pub sum_by_cycle : SumByCycle
sum_by_cycle y =
    let e : y / cycle_years * cycle_years + y % cycle_years ≡ y = omega arith in
    sym (sym (ap (total year_days) e) ∙ whole_cycles (y / cycle_years) (y % cycle_years)
    ∙ omega (arith, days_and_leap_days (y % cycle_years), leap_days_lem (y % cycle_years)))

-- ---- the year of a day number

-- 366 days for each year are not too few
early_starts : (n : ℕ) → total year_days (early_year n) ≤ n
early_starts n = omega (arith, whole_cycles (n / cycle_days) (n % cycle_days / leap_year_days), years_le (n % cycle_days / leap_year_days))

-- of a cycle's years the first k fall short of 366 days each by no more than all 400 do, 303 days
short_by : (k : ℕ) → k ≤ cycle_years → leap_year_days * k + cycle_days ≤ total year_days k + leap_year_days * cycle_years
short_by k h =
    let e : k + (cycle_years - k) ≡ cycle_years = omega arith in
    let s : total year_days cycle_years ≡ total year_days k + total (λ (j : ℕ). year_days (k + j)) (cycle_years - k) = ap (total year_days) (sym e) ∙ total_adds year_days k (cycle_years - k) in
    omega (arith, first_cycle, total_le (λ (j : ℕ). year_days (k + j)) leap_year_days (λ (j : ℕ). year_le (k + j)) (cycle_years - k))

-- so that the year found by them is too early by one at most
early_by_one : (d : ℕ) → d < cycle_days → d < total year_days (d / leap_year_days + 2)
early_by_one d h = go (leb (d / leap_year_days + 2) cycle_years) refl
  where
    go : (b : Bool) → leb (d / leap_year_days + 2) cycle_years ≡ b → d < total year_days (d / leap_year_days + 2)
    go true t = omega (arith, short_by (d / leap_year_days + 2) (leb-true _ _ t))
    go false t = omega (arith, first_cycle, years_grow cycle_years (d / leap_year_days + 2) (omega (arith, leb-false (d / leap_year_days + 2) cycle_years t)))

early_ends : (n : ℕ) → n < total year_days (early_year n + 1 + 1)
early_ends n =
    let c : ℕ = n / cycle_days in
    let d : ℕ = n % cycle_days in
    let e : early_year n + 1 + 1 ≡ c * cycle_years + (d / leap_year_days + 2) = omega arith in
    let t : total year_days (early_year n + 1 + 1) ≡ c * cycle_days + total year_days (d / leap_year_days + 2) = ap (total year_days) e ∙ whole_cycles c (d / leap_year_days + 2) in
    omega (arith, early_by_one d (omega arith))

pub early_year_lem : EarlyYear
early_year_lem n = (early_starts n, early_ends n)

-- a day before a last year has an early year before it too
pub early_before : (n last : ℕ) → n < total year_days last → early_year n < last
early_before n last h = below year_days (early_year n) last 0 (omega (arith, early_starts n))

-- which of the two years is found, by what `before_year` and `year_days` say
left_of : (n : ℕ) → n - before_by_cycle (early_year n) ≡ n - total year_days (early_year n)
left_of n = ap (λ (x : ℕ). n - x) (sum_by_cycle (early_year n))

pub found_early : (n : ℕ) → n - total year_days (early_year n) < year_days (early_year n) → year_by_cycle n ≡ early_year n
found_early n h =
    ap (λ (b : Bool). pick b (early_year n) (early_year n + 1))
    (lt-ltb (n - before_by_cycle (early_year n)) (year_days (early_year n)) (rw (left_of n) h))

pub found_next : (n : ℕ) → year_days (early_year n) ≤ n - total year_days (early_year n) → year_by_cycle n ≡ early_year n + 1
found_next n h =
    ap (λ (b : Bool). pick b (early_year n) (early_year n + 1))
    (le-ltb (n - before_by_cycle (early_year n)) (year_days (early_year n)) (rw (left_of n) h))

pub year_by_cycle_lem : YearByCycle
year_by_cycle_lem n = go (ltb (n - total year_days y) (year_days y)) refl
  where
    y : ℕ
    y = early_year n

    go : (b : Bool) → ltb (n - total year_days y) (year_days y) ≡ b → HoldsDay (year_by_cycle n) n
    go true t =
        let h : n - total year_days y < year_days y = ltb-true _ _ t in
        rw (found_early n h) (record { starts = early_starts n; ends = omega (arith, years_next y, early_starts n) })
    go false t =
        let h : year_days y ≤ n - total year_days y = ltb-false _ _ t in
        rw (found_next n h) (record { starts = omega (arith, years_next y, early_starts n); ends = early_ends n })

pub one_year : OneYear
one_year y z n h g =
    one_period year_days y z (n - total year_days y) (n - total year_days z)
    (omega (arith, h.starts, h.ends, years_next y))
    (omega (arith, g.starts, g.ends, years_next z))
    (omega (arith, h.starts, g.starts))

pub walk_by_cycle : WalkByCycle
unfolding date_of
walk_by_cycle n =
    let p : Period = period_of year_days (suc n) 0 n in
    let w : Found year_days 0 n p = year_found n in
    let z : total year_days 0 ≡ 0 = total_zero year_days in
    let h : HoldsDay p.number n = record { starts = omega (arith, w.same); ends = omega (arith, w.same, w.within, years_next p.number) } in
    one_year p.number (year_by_cycle n) n h (year_by_cycle_lem n)
