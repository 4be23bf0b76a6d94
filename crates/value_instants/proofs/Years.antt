-- Whether the year of a local time passes the last one: by the calendar's answer for its day, and of a later time than one that does.
use Rattle.std.specs.Prelude.{None, Option, Some, is_some}
use mathlib.Core.Path.{◌≡◌, ap, sym, ◌∙◌}
use mathlib.Core.Bool.{Bool, true, false, not}
use Prim.Native.Nat.{ℕ, ◌+◌, ◌*◌, ◌/◌, ◌≤◌, ◌<◌}
use native.Mathlib.Omega.{arith}
use borrow.Author.Tests.{le-leb, leb-true, lt-ltb, le-ltb, ltb-false}
use Rattle.basis.proofs.Tests.{both_left, both_true}
use Rattle.calendar.specs.declared.Date.{Date}
use Rattle.calendar.specs.Calendar.{date_of, dated_of}
use Rattle.calendar.proofs.Answers.{on_says, later_says, OnTime}
use Rattle.calendar.proofs.Years.{years_le, days_up_to, years_in_order}
use Rattle.value.specs.Bounds.{min_year, max_year, second_ticks, day_ticks}
use Rattle.value_instants.specs.Ticks.{in_years, past_years}

module _ (s p : ℕ) (small : p < second_ticks) where
  same_day : s / 86400 ≡ (s * second_ticks + p) / day_ticks
  same_day = omega arith

  not_past : (d : Date) → Some d ≡ dated_of (s / 86400) max_year → false ≡ past_years (s * second_ticks + p)
  unfolding past_years
  not_past d e =
      let o : OnTime (s / 86400) max_year d = on_says (s / 86400) max_year d (sym e) in
      let y : d.year ≡ (date_of ((s * second_ticks + p) / day_ticks)).year = ap (λ (x : Date). x.year) (o.date ∙ ap date_of same_day) in
      sym (le-ltb max_year (date_of ((s * second_ticks + p) / day_ticks)).year (omega (arith, o.year_to)))

  is_past : None ≡ dated_of (s / 86400) max_year → true ≡ past_years (s * second_ticks + p)
  unfolding past_years
  is_past e =
      let h : max_year < (date_of (s / 86400)).year = later_says (s / 86400) max_year (sym e) in
      let y : (date_of (s / 86400)).year ≡ (date_of ((s * second_ticks + p) / day_ticks)).year = ap (λ (n : ℕ). (date_of n).year) same_day in
      sym (lt-ltb max_year (date_of ((s * second_ticks + p) / day_ticks)).year (omega arith))

  -- by whether the calendar answers a date
  pub past_where_none : (x : Option Date) (b : Bool) → x ≡ dated_of (s / 86400) max_year → is_some x ≡ not b → b ≡ past_years (s * second_ticks + p)
  past_where_none None true e f = is_past e
  past_where_none (Some d) false e f = not_past d e
  past_where_none None false e f = cc
  past_where_none (Some d) true e f = cc

module _ (t u : ℕ) (later : t ≤ u) where
  in_order : (date_of (t / day_ticks)).year ≤ (date_of (u / day_ticks)).year
  in_order = years_in_order (t / day_ticks) (u / day_ticks) (omega arith)

  -- no time before one that does not pass does
  pub past_in_order : past_years u ≡ false → past_years t ≡ false
  unfolding past_years
  past_in_order e =
      let h : (date_of (u / day_ticks)).year ≤ max_year = ltb-false max_year (date_of (u / day_ticks)).year e in
      le-ltb max_year (date_of (t / day_ticks)).year (omega (arith, in_order))

  -- a time after one within the years is within them where it does not pass the last
  pub later_in_years : in_years t ≡ true → past_years u ≡ false → in_years u ≡ true
  unfolding in_years past_years
  later_in_years e f =
      let h : (date_of (u / day_ticks)).year ≤ max_year = ltb-false max_year (date_of (u / day_ticks)).year f in
      let g : min_year ≤ (date_of (t / day_ticks)).year = leb-true min_year (date_of (t / day_ticks)).year (both_left _ _ e) in
      both_true _ _ (le-leb min_year (date_of (u / day_ticks)).year (omega (arith, in_order))) (le-leb (date_of (u / day_ticks)).year max_year h)

-- a time that does not pass the last year is less than the days of the years
pub not_past_few : (t : ℕ) → past_years t ≡ false → t < 366 * (max_year + 1) * day_ticks
unfolding past_years
not_past_few t e =
    let h : (date_of (t / day_ticks)).year ≤ max_year = ltb-false max_year (date_of (t / day_ticks)).year e in
    omega (arith, days_up_to (t / day_ticks) max_year h, years_le (max_year + 1))
