-- Day numbers keep the order of dates: of two dates of the calendar the earlier has the lower number, and the other way
-- round. A day of an earlier year comes first, in one year a day of an earlier month, in one month an earlier day.
use mathlib.Core.Path.{◌≡◌, refl, ap, sym}
use mathlib.Core.Bool.{Bool, true, false}
use Prim.Native.Nat.{ℕ, ◌+◌, ◌-◌, ◌≤◌, ◌<◌}
use native.Mathlib.Omega.{arith}
use lib.Dec.{eqb, ltb}
use borrow.Author.Tests.{eqb-true, eqb-false, ltb-true, ltb-false, lt-ltb}
use Rattle.basis.specs.Choice.{pick}
use Rattle.calendar.specs.declared.Date.{Date}
use Rattle.calendar.specs.Calendar.{total, year_days, month_row, leap_row, day_of, GoodDate, before}
use Rattle.calendar.proofs.Periods.{stretch_below}
use Rattle.calendar.proofs.Years.{year_starts, year_ends, years_grow}

pub earlier_year : (d e : Date) → GoodDate d → d.year < e.year → day_of d < day_of e
earlier_year d e g h =
    omega (arith, year_ends d g, years_grow (d.year + 1) e.year (omega arith), year_starts e)

pub earlier_month : (d e : Date) → GoodDate d → d.year ≡ e.year → d.month < e.month → day_of d < day_of e
earlier_month d e g q h =
    let f : ℕ → ℕ = month_row (leap_row d.year) in
    let r : total f (d.month - 1) + (d.day - 1) < total f (e.month - 1) = stretch_below f (d.month - 1) (e.month - 1) (d.day - 1) (omega (arith, g.month_from)) (omega (arith, g.day_from, g.day_to)) in
    let y : total year_days d.year ≡ total year_days e.year = ap (total year_days) q in
    let m : total f (e.month - 1) ≡ total (month_row (leap_row e.year)) (e.month - 1) = ap (λ (x : ℕ). total (month_row (leap_row x)) (e.month - 1)) q in
    omega arith

-- the days before a date's month
abbrev before_days : Date → ℕ
before_days d = total year_days d.year + total (month_row (leap_row d.year)) (d.month - 1)

same_month : (d e : Date) → d.year ≡ e.year → d.month ≡ e.month → before_days d ≡ before_days e
same_month d e q r = λ i. total year_days (q i) + total (month_row (leap_row (q i))) (r i - 1)

pub earlier_day : (d e : Date) → GoodDate d → d.year ≡ e.year → d.month ≡ e.month → d.day < e.day → day_of d < day_of e
earlier_day d e g q r h = omega (arith, same_month d e q r, g.day_from)

-- m and n differ, and the greater of them would make b less than a: so m is the lower where a is
lower : (m n a b : ℕ) → (m ≡ n → ⊥) → (n < m → b < a) → a < b → m < n
lower m n a b k f h = go (ltb m n) (ltb n m) refl refl
  where
    bad : b < a → ⊥
    bad g = omega arith

    same : n ≤ m → m ≤ n → ⊥
    same g l = k (omega arith)

    go : (x y : Bool) → ltb m n ≡ x → ltb n m ≡ y → m < n
    go true y ex ey = ltb-true m n ex
    go false true ex ey = absurd (bad (f (ltb-true n m ey)))
    go false false ex ey = absurd (same (ltb-false m n ex) (ltb-false n m ey))

pub earlier_is_lower : (d e : Date) → GoodDate d → before d e ≡ true → day_of d < day_of e
unfolding before
earlier_is_lower d e g = go (eqb d.year e.year) (eqb d.month e.month) refl refl
  where
    go : (a b : Bool) → eqb d.year e.year ≡ a → eqb d.month e.month ≡ b
        → pick a (pick b (ltb d.day e.day) (ltb d.month e.month)) (ltb d.year e.year) ≡ true
        → day_of d < day_of e
    go true true ea eb h = earlier_day d e g (eqb-true _ _ ea) (eqb-true _ _ eb) (ltb-true _ _ h)
    go true false ea eb h = earlier_month d e g (eqb-true _ _ ea) (ltb-true _ _ h)
    go false b ea eb h = earlier_year d e g (ltb-true _ _ h)

pub lower_is_earlier : (d e : Date) → GoodDate d → GoodDate e → day_of d < day_of e → before d e ≡ true
unfolding before
lower_is_earlier d e g k h = go (eqb d.year e.year) (eqb d.month e.month) refl refl
  where
    go : (a b : Bool) → eqb d.year e.year ≡ a → eqb d.month e.month ≡ b
        → pick a (pick b (ltb d.day e.day) (ltb d.month e.month)) (ltb d.year e.year) ≡ true
    go true true ea eb =
        let m : before_days d ≡ before_days e = same_month d e (eqb-true _ _ ea) (eqb-true _ _ eb) in
        lt-ltb d.day e.day (omega (arith, g.day_from, k.day_from))
    go true false ea eb =
        let y : d.year ≡ e.year = eqb-true _ _ ea in
        lt-ltb d.month e.month (lower d.month e.month (day_of d) (day_of e) (eqb-false _ _ eb) (earlier_month e d k (sym y)) h)
    go false b ea eb =
        lt-ltb d.year e.year (lower d.year e.year (day_of d) (day_of e) (eqb-false _ _ ea) (earlier_year e d k) h)
