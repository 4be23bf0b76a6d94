-- The record at a local time, by the calendar's answer for its day.
use Rattle.std.specs.Prelude.{None, Option, Some}
use mathlib.Core.Path.{◌≡◌, ap, sym, ◌∙◌}
use mathlib.Core.Bool.{true, false}
use Prim.Native.Nat.{ℕ, ◌+◌, ◌*◌, ◌/◌, ◌%◌, ◌≤◌, ◌<◌}
use native.Mathlib.Omega.{arith}
use lib.Dec.{leb}
use borrow.Author.Tests.{le-leb, lt-leb}
use Rattle.basis.specs.Choice.{pick, both}
use Rattle.calendar.specs.declared.Date.{Date}
use Rattle.calendar.specs.Calendar.{date_of, dated_of}
use Rattle.calendar.proofs.Answers.{on_says, later_says, OnTime}
use Rattle.value.specs.Bounds.{min_year, max_year, second_ticks, day_ticks}
use Rattle.value.specs.Clocks.{at_clock}
use Rattle.value_instants.specs.Ticks.{at_local, in_years, placed_at}
use Rattle.value.specs.declared.Offset.{Offset}

module _ (s p : ℕ) (z : Option Offset) (small : p < second_ticks) where
  abbrev now_ticks : ℕ
  now_ticks = s * second_ticks + p

  same_day : s / 86400 ≡ now_ticks / day_ticks
  same_day = omega arith

  same_time_lem : s % 86400 * second_ticks + p ≡ now_ticks % day_ticks
  same_time_lem = omega arith

  pub placed_on : (d : Date) → Some d ≡ dated_of (s / 86400) max_year → min_year ≤ d.year
      → Some (at_clock d (s % 86400 * second_ticks + p) z) ≡ placed_at now_ticks z
  unfolding placed_at in_years both
  placed_on d e h =
      let o : OnTime (s / 86400) max_year d = on_says (s / 86400) max_year d (sym e) in
      let q : d ≡ date_of (now_ticks / day_ticks) = o.date ∙ ap date_of same_day in
      let a : leb min_year (date_of (now_ticks / day_ticks)).year ≡ true = ap (λ (x : Date). leb min_year x.year) (sym q) ∙ le-leb _ _ h in
      let b : leb (date_of (now_ticks / day_ticks)).year max_year ≡ true = ap (λ (x : Date). leb x.year max_year) (sym q) ∙ le-leb _ _ o.year_to in
      let r : at_clock d (s % 86400 * second_ticks + p) z ≡ at_local now_ticks z = λ i. at_clock (q i) (same_time_lem i) z in
      ap Some r ∙ sym (λ i. pick (both (a i) (b i)) (Some (at_local now_ticks z)) None)

  pub placed_early : (d : Date) → Some d ≡ dated_of (s / 86400) max_year → d.year < min_year → None ≡ placed_at now_ticks z
  unfolding placed_at in_years both
  placed_early d e h =
      let o : OnTime (s / 86400) max_year d = on_says (s / 86400) max_year d (sym e) in
      let q : d ≡ date_of (now_ticks / day_ticks) = o.date ∙ ap date_of same_day in
      let a : leb min_year (date_of (now_ticks / day_ticks)).year ≡ false = ap (λ (x : Date). leb min_year x.year) (sym q) ∙ lt-leb _ _ h in
      sym (λ i. pick (both (a i) (leb (date_of (now_ticks / day_ticks)).year max_year)) (Some (at_local now_ticks z)) None)

  pub placed_late : None ≡ dated_of (s / 86400) max_year → None ≡ placed_at now_ticks z
  unfolding placed_at in_years both
  placed_late e =
      let h : max_year < (date_of (s / 86400)).year = later_says (s / 86400) max_year (sym e) in
      let q : (date_of (s / 86400)).year ≡ (date_of (now_ticks / day_ticks)).year = ap (λ (n : ℕ). (date_of n).year) same_day in
      let a : leb min_year (date_of (now_ticks / day_ticks)).year ≡ true = le-leb min_year (date_of (now_ticks / day_ticks)).year (omega arith) in
      let b : leb (date_of (now_ticks / day_ticks)).year max_year ≡ false = lt-leb (date_of (now_ticks / day_ticks)).year max_year (omega arith) in
      sym (λ i. pick (both (a i) (b i)) (Some (at_local now_ticks z)) None)
