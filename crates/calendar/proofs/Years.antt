-- The years: how many days lie before one, and where a day number's year stands to a last year.
use mathlib.Core.Path.{◌≡◌, ap, sym}
use Prim.Native.Nat.{ℕ, suc, ◌+◌, ◌*◌, ◌≤◌, ◌<◌}
use native.Mathlib.Omega.{arith}
use native.Mathlib.Numerals.{add-one}
use Rattle.calendar.specs.declared.Date.{Date}
use Rattle.calendar.specs.Calendar.{total, period_of, Period, year_days, date_within, date_of, day_of, GoodDate}
use Rattle.calendar.proofs.Leap.{year_le, year_has_day}
use Rattle.calendar.proofs.Months.{in_year}
use Rattle.calendar.proofs.Periods.{total_zero, total_suc, total_le, total_ge, total_grows, placed, found_first, Found, below}

pub years_le : (y : ℕ) → total year_days y ≤ 366 * y
years_le y = total_le year_days 366 year_le y

pub years_grow : (m n : ℕ) → m ≤ n → total year_days m ≤ total year_days n
years_grow m n h = total_grows year_days m n h

pub years_next : (y : ℕ) → total year_days (y + 1) ≡ total year_days y + year_days y
years_next y = rw add-one (total_suc year_days y)

-- day n lies before the end of year n
pub years_enough : (n : ℕ) → n < total year_days (suc n)
years_enough n = omega (arith, total_ge year_days year_has_day (suc n))

-- the year in which a day lies, and its number there
pub year_found : (n : ℕ) → Found year_days 0 n (period_of year_days (suc n) 0 n)
year_found n = found_first year_days (suc n) n (years_enough n)

-- the date of a day, from its year and its number there
pub dated_by : (n y k : ℕ) → k < year_days y → total year_days y + k ≡ n → date_within (record { number = y; left = k }) ≡ date_of n
unfolding date_of
dated_by n y k h e = sym (ap date_within (placed year_days (suc n) n y k (years_enough n) h e))

pub year_starts : (d : Date) → total year_days d.year ≤ day_of d
year_starts d = omega arith

pub year_ends : (d : Date) → GoodDate d → day_of d < total year_days (d.year + 1)
year_ends d g = omega (arith, in_year d g, years_next d.year)

-- a day before the end of a last year has a year up to it
pub year_up_to : (n last : ℕ) → n < total year_days (last + 1) → (date_of n).year ≤ last
unfolding date_of
year_up_to n last h =
    let p : Period = period_of year_days (suc n) 0 n in
    let q : Found year_days 0 n p = year_found n in
    let lt : p.number < last + 1 = below year_days p.number (last + 1) p.left (omega (arith, q.same, total_zero year_days)) in
    omega arith

-- and the other way round
pub days_up_to : (n last : ℕ) → (date_of n).year ≤ last → n < total year_days (last + 1)
unfolding date_of
days_up_to n last h =
    let p : Period = period_of year_days (suc n) 0 n in
    let q : Found year_days 0 n p = year_found n in
    let g : total year_days (p.number + 1) ≤ total year_days (last + 1) = years_grow (p.number + 1) (last + 1) (omega arith) in
    omega (arith, q.same, q.within, total_zero year_days, years_next p.number)

-- a later day's year is not an earlier one
pub years_in_order : (m n : ℕ) → m ≤ n → (date_of m).year ≤ (date_of n).year
years_in_order m n h = year_up_to m (date_of n).year (omega (arith, days_up_to n (date_of n).year (omega arith)))
