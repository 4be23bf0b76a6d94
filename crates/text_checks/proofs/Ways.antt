-- The ways through the checks, one law a way out, in the words of the code: what it has in hand for each definition.
use Rattle.std.specs.Prelude.{None, Option, Some}
use mathlib.Core.Path.{◌≡◌, refl, ap, sym, ◌∙◌}
use mathlib.Core.Bool.{Bool, true, false}
use mathlib.Core.List.{List}
use Prim.Native.Nat.{ℕ, ◌+◌, ◌*◌, ◌≤◌, ◌<◌}
use native.Mathlib.Omega.{arith}
use lib.Dec.{eqb, leb}
use lib.ListN.{length}
use borrow.Author.Tests.{leb-true, leb-false, lt-leb, le-leb, eq-eqb, ne_eqb, eqb-true}
use Rattle.basis.specs.Choice.{pick, every}
use Rattle.basis.specs.Answer.{Answer, gives, refuses}
use Rattle.basis.proofs.Tests.{both_left, both_right}
use Rattle.calendar.specs.Calendar.{GoodDate, day_of, dated_of}
use Rattle.calendar.specs.declared.Date.{Date}
use Rattle.value.specs.Bounds.{max_year, second_ticks, day_ticks}
use Rattle.value.specs.Clocks.{at_clock}
use Rattle.value.specs.Refusals.{bad_text, beyond_bounds}
use Rattle.value.specs.Values.{ok_date}
use Rattle.value.specs.Rows.{parts_in, layout_of}
use Rattle.value.specs.declared.DateTime.{DateTime}
use Rattle.value.specs.declared.Kind.{Kind}
use Rattle.value.specs.declared.OwnParts.{OwnParts}
use Rattle.value.specs.declared.Value.{Value}
use Rattle.value.specs.declared.Value.TheVariants as VV
use Rattle.value.proofs.Good.{good_day, numbered}
use Rattle.text_scan.specs.declared.FoundDate.{FoundDate}
use Rattle.text_scan.specs.declared.FoundClock.{FoundClock}
use Rattle.text_scan.specs.Scanning.{Scan, uncapped, scanned_parts}
use Rattle.text_scan.specs.Carried.{capped}
use Rattle.text_scan.proofs.Caps.{cut, cut_date, parts_cut}
use Rattle.text_checks.specs.Reading.{next_day, day_end, max_hour, max_minute, ok_clock, is_day_end, good_clock, clock_ticks, clocked, on_calendar, bounded, judge}
use Rattle.value.specs.declared.Offset.{Offset}

-- the day after
module _ (k : Kind) (d : Date) (z : Option Offset) {own : OwnParts} (ep : own ≡ parts_in (layout_of k)) where
  module _ (h : own.day ≡ true) {n : ℕ} (en : n ≡ day_of d) {x : (Option Date)} (ex : x ≡ dated_of (n + 1) max_year) where
    after : {y : (Option Date)} → x ≡ y → dated_of (day_of d + 1) max_year ≡ y
    after e = sym (ex ∙ ap (λ (m : ℕ). dated_of (m + 1) max_year) en) ∙ e

    pub next_on : (e : Date) → x ≡ Some e → gives (VV.Moment k (at_clock e 0 z)) ≡ next_day k d z
    unfolding next_day
    next_on e ee = rw (sym (ap (λ (x : OwnParts). x.day) ep) ∙ h, after ee)

    pub next_beyond : x ≡ None → refuses beyond_bounds ≡ next_day k d z
    unfolding next_day
    next_beyond ee = rw (sym (ap (λ (x : OwnParts). x.day) ep) ∙ h, after ee)

  pub same_day : own.day ≡ false → gives (VV.Moment k (at_clock d 0 z)) ≡ next_day k d z
  unfolding next_day
  same_day h = rw (sym (ap (λ (x : OwnParts). x.day) ep) ∙ h)

-- a date within the bounds has a day after it that can be counted
pub a_date : (d : Date) → ok_date d.year d.month d.day ≡ true → GoodDate d
a_date d e = (good_day d e).date

pub few_days : (d : Date) → ok_date d.year d.month d.day ≡ true → day_of d < 366 * (max_year + 1)
few_days d e = (numbered d (good_day d e)).days_few

-- the clock: a good one that is not the end of a day is within the day
module _ (c : FoundClock) where
  pub clock_within : ok_clock c ≡ true → c.part < second_ticks → clock_ticks c < day_ticks
  unfolding ok_clock every clock_ticks
  clock_within e l =
      let e1 = both_right _ _ e in
      omega (arith, leb-true c.hour max_hour (both_left _ _ e), leb-true c.minute max_minute (both_left _ _ e1), leb-true c.second max_minute (both_left _ _ (both_right _ _ e1)))

  module _ (n : c.hour ≡ day_end → ⊥) where
    pub within_day : good_clock c ≡ true → ok_clock c ≡ true
    unfolding good_clock is_day_end every
    within_day e = go (ok_clock c) refl
      where
        go : (b : Bool) → ok_clock c ≡ b → ok_clock c ≡ true
        go true q = q
        go false q = absurd (n (eqb-true c.hour day_end (both_left _ _ (rw q at e))))

    pub span_within : good_clock c ≡ true → c.part < second_ticks → (c.part < second_ticks) × ((c.hour * 3600 + c.minute * 60 + c.second) * second_ticks + c.part < day_ticks)
    unfolding clock_ticks
    span_within e l = (l, omega (arith, clock_within (within_day e) l))

    pub on_clock : (k : Kind) (d : Date) (z : Option Offset) {r : DateTime} → r ≡ at_clock d ((c.hour * 3600 + c.minute * 60 + c.second) * second_ticks + c.part) z
        → gives (VV.Moment k r) ≡ clocked k d c z
    unfolding clocked clock_ticks
    on_clock k d z e = ap (λ (x : DateTime). gives (VV.Moment k x)) e ∙ rw (ne_eqb c.hour day_end n) (ap (λ (t : ℕ). gives (VV.Moment k (at_clock d t z))) (omega arith))

  pub at_end : c.hour ≡ day_end → (k : Kind) (d : Date) (z : Option Offset) → next_day k d z ≡ clocked k d c z
  unfolding clocked
  at_end e k d z = rw (eq-eqb c.hour day_end e)

-- the checks, where the first three pass
pub past_checks : (k : Kind) (n : ℕ) (t : Scan) → t.good ≡ true → t.at ≡ n → t.clock.long ≡ false → t.date.negative ≡ false → t.date.year ≤ max_year
    → on_calendar k t.date t.clock t.zone ≡ judge k n t
unfolding judge bounded
past_checks k n t g e l m y = rw (g, eq-eqb t.at n e, l, m, le-leb t.date.year max_year y)

-- a year that is cut is beyond the greatest exactly where the whole of it is, and else the same
years_cut : (d : FoundDate) (c : FoundClock) (on : FoundDate → Answer Value) → bounded (cut_date d) c (on (cut_date d)) ≡ bounded d c (on d)
unfolding bounded
years_cut d c on = go (leb d.year max_year) refl
  where
    go : (b : Bool) → leb d.year max_year ≡ b → bounded (cut_date d) c (on (cut_date d)) ≡ bounded d c (on d)
    go true e =
        let y : capped d.year ≡ d.year = omega (arith, leb-true d.year max_year e) in
        let w : cut_date d ≡ d = λ i. record { negative = d.negative; year = y i; month = d.month; day = d.day } in
        λ i. bounded (w i) c (on (w i))
    go false e = rw (e, lt-leb (capped d.year) max_year (omega (arith, leb-false d.year max_year e)))

-- what is found with a year that is cut is judged as what is found with the whole of it
pub judged_cut : (k : Kind) (n : ℕ) (t : Scan) → judge k n (cut t) ≡ judge k n t
unfolding judge
judged_cut k n t =
    ap (λ (x : Answer Value). pick t.good (pick (eqb t.at n) x (refuses bad_text)) (refuses bad_text))
    (years_cut t.date t.clock (λ (d : FoundDate). on_calendar k d t.clock t.zone))

pub way : (k : Kind) (s : List ℕ) {t : Scan} → t ≡ scanned_parts capped k s → judge k (length s) t ≡ judge k (length s) (scanned_parts uncapped k s)
way k s e = ap (judge k (length s)) (e ∙ parts_cut k s) ∙ judged_cut k (length s) (scanned_parts uncapped k s)
