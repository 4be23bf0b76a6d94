-- Dates and day numbers: the two ways between them undo each other, for every date of the calendar and every number, and
-- they keep the order of dates.
use mathlib.Core.Path.{◌≡◌, refl, ap, sym, ◌∙◌}
use mathlib.Core.Bool.{true}
use Prim.Native.Nat.{ℕ, suc, ◌+◌, ◌-◌, ◌<◌}
use native.Mathlib.Omega.{arith}
use Rattle.calendar.specs.declared.Date.{Date}
use Rattle.calendar.specs.Calendar.{total, period_of, Period, year_days, month_row, leap_row, date_of, day_of, GoodDate, before}
use Rattle.calendar.proofs.Months.{in_year, dated_in, date_in_year}
use Rattle.calendar.proofs.Order.{earlier_is_lower, lower_is_earlier}
use Rattle.calendar.proofs.Periods.{total_zero}
use Rattle.calendar.proofs.Years.{dated_by, year_found}

pub date_day : (d : Date) → GoodDate d → date_of (day_of d) ≡ d
date_day d g =
    let k : ℕ = total (month_row (leap_row d.year)) (d.month - 1) + (d.day - 1) in
    let e : d.day - 1 + 1 ≡ d.day = omega (arith, g.day_from) in
    sym (dated_by (day_of d) d.year k (in_year d g) (omega arith))
    ∙ sym (dated_in d.year k d.month (d.day - 1) (in_year d g) g.month_from (omega (arith, g.day_from, g.day_to)) refl)
    ∙ ap (λ (x : ℕ). record { year = d.year; month = d.month; day = x }) e

pub date_good : (n : ℕ) → GoodDate (date_of n)
unfolding date_of
date_good n =
    let p : Period = period_of year_days (suc n) 0 n in
    (date_in_year p.number p.left (year_found n).within).good

pub day_date : (n : ℕ) → day_of (date_of n) ≡ n
unfolding date_of
day_date n =
    let p : Period = period_of year_days (suc n) 0 n in
    omega (arith, (date_in_year p.number p.left (year_found n).within).number, (year_found n).same, total_zero year_days)

-- dates of the calendar with one day number are one date
pub same_day : (d e : Date) → GoodDate d → GoodDate e → day_of d ≡ day_of e → d ≡ e
same_day d e g h q = sym (date_day d g) ∙ ap date_of q ∙ date_day e h

pub dates_keep_order : (d e : Date) → GoodDate d → GoodDate e
    → (before d e ≡ true → day_of d < day_of e) × (day_of d < day_of e → before d e ≡ true)
dates_keep_order d e g h = (earlier_is_lower d e g, lower_is_earlier d e g h)
