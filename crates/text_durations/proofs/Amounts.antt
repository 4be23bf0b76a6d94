-- A value as an amount: within the bounds, with no sign on zero, counted whole by the form of its kind, and that
-- value again.
use mathlib.Core.Path.{◌≡◌, refl, ap, sym, ◌∙◌}
use mathlib.Core.Bool.{Bool, true, false, not}
use mathlib.Core.List.{List}
use Prim.Native.Nat.{ℕ, ◌+◌, ◌*◌, ◌/◌, ◌%◌, ◌≤◌}
use native.Mathlib.Nat.{div-add-mod'}
use native.Mathlib.Omega.{arith}
use borrow.Author.Tests.{eqb-true, eq-eqb, le-leb}
use Rattle.basis.specs.Choice.{pick, both, all_pass}
use Rattle.basis.proofs.Tests.{never, both_left, both_right}
use Rattle.value.specs.Bounds.{second_ticks, max_day_time, max_year_month}
use Rattle.value.specs.Carried.{span_of}
use Rattle.value.specs.Clocks.{ticks_in, duration_of}
use Rattle.value.specs.Values.{ok_day_time, ok_year_month}
use Rattle.value.specs.Rows.{has, is_moment}
use Rattle.value.specs.Kinds.{kind_of, ok_value}
use Rattle.value.specs.declared.DayTime.{DayTime}
use Rattle.value.specs.declared.YearMonth.{YearMonth}
use Rattle.value.specs.declared.Span.{Span}
use Rattle.value.specs.declared.Value.{Value}
use Rattle.value.specs.declared.Value.TheVariants as VV
use Rattle.value.proofs.KindParts.{moment_good}
use Rattle.value.proofs.ClockLaws.{duration_is, day_time_signed, day_time_ok, ticks_to}
use Rattle.value.proofs.Signs.{signed_within, signed_zero, signed_ok}
use Rattle.text_durations.specs.declared.Sums.{Sums}
use Rattle.text_durations.specs.declared.Amount.{Amount}
use Rattle.text_forms.specs.Forms.{Form, counts_months, minutes, seconds, duration_form, form_months}
use Rattle.text_durations.specs.Walks.{no_sums, shape, amount_value}
use Rattle.text_durations.specs.Spelling.{left, day_time_amount, year_month_amount, amount_of}
use Rattle.text_forms.proofs.RowTests.{one_alone}
use Rattle.text_durations.proofs.Valid.{Good, Counts, months_within, seconds_within, only_seconds, only_months}
use Rattle.text_durations.proofs.Trip.{carried, carried_has, left_no_months, left_no_seconds, all_months, all_seconds, same_sums}

no_ticks : (t : ℕ) → 0 + t / second_ticks + t % second_ticks ≡ 0 → t ≡ 0
no_ticks t e = omega arith

no_months_lem : (n : ℕ) → n + 0 + 0 ≡ 0 → n ≡ 0
no_months_lem n e = omega arith

-- within the bounds
day_time_good : (d : DayTime) → ok_day_time d ≡ true → Good (day_time_amount d)
unfolding both
day_time_good d ok =
    let h : ticks_in d ≤ max_day_time = ticks_to d ok in
    record {
      within = le-leb (ticks_in d / second_ticks * second_ticks + ticks_in d % second_ticks) max_day_time (omega arith);
      sign = λ e. signed_zero max_day_time (ticks_in d) d.negative (day_time_signed d ok) (no_ticks (ticks_in d) (eqb-true _ _ e));
      part = omega arith;
    }

year_month_good : (d : YearMonth) → ok_year_month d ≡ true → Good (year_month_amount d)
unfolding both
year_month_good d ok =
    let h : d.months ≤ max_year_month = signed_within max_year_month d.months d.negative ok in
    record {
      within = rw (le-leb d.months max_year_month h);
      sign = λ e. signed_zero max_year_month d.months d.negative ok (no_months_lem d.months (eqb-true _ _ e));
      part = omega arith;
    }

-- the amount of a dayTimeDuration, of whose size the code has the span
pub size_amount : (d : DayTime) {z : Span} → z ≡ span_of (ticks_in d) → record { negative = d.negative; sums = record { months = 0; seconds = z.seconds }; ticks = z.part } ≡ day_time_amount d
size_amount d e = λ i. record { negative = d.negative; sums = record { months = 0; seconds = (e i).seconds }; ticks = (e i).part }

none_good : Good (record { negative = false; sums = no_sums; ticks = 0 })
unfolding both
none_good = record { within = refl; sign = λ e. refl; part = omega arith }

pub value_good : (v : Value) → ok_value v ≡ true → Good (amount_of v)
unfolding ok_value
value_good (VV.Moment k d) ok = none_good
value_good (VV.DayTime t) ok = day_time_good t ok
value_good (VV.YearMonth m) ok = year_month_good m ok

-- a form counts an amount whole: of what it has no component for there is none
pub record Fits (f : Form) (a : Amount) : Type 0 where
  pub months : has f.before minutes ≡ false → a.sums.months ≡ 0
  pub rest : has f.after seconds ≡ false → a.sums.seconds + a.ticks ≡ 0

module _ (f : Form) (a : Amount) (fits : Fits f a) where
  abbrev L : Sums
  L = left false f.before a.sums

  before_months : (left false f.before a.sums).months ≡ 0
  before_months = go (has f.before minutes) refl
    where
      go : (b : Bool) → has f.before minutes ≡ b → (left false f.before a.sums).months ≡ 0
      go true e = all_months f.before a.sums e
      go false e = left_no_months false f.before a.sums (fits.months e)

  after_seconds : (left true f.after (left false f.before a.sums)).seconds ≡ 0
  after_seconds = go (has f.after seconds) refl
    where
      go : (b : Bool) → has f.after seconds ≡ b → (left true f.after (left false f.before a.sums)).seconds ≡ 0
      go true e = all_seconds f.after L e
      go false e = left_no_seconds true f.after L (left_no_seconds false f.before a.sums (omega (arith, fits.rest e)))

  pub all_left : left true f.after (left false f.before a.sums) ≡ no_sums
  all_left = same_sums (left_no_months true f.after L before_months) after_seconds

  pub fraction_left : carried f.after a.ticks ≡ a.ticks
  fraction_left = go (has f.after seconds) refl
    where
      go : (b : Bool) → has f.after seconds ≡ b → carried f.after a.ticks ≡ a.ticks
      go true e = carried_has f.after a.ticks ∙ (λ i. pick (e i) a.ticks 0)
      go false e = carried_has f.after a.ticks ∙ (λ i. pick (e i) a.ticks 0) ∙ omega (arith, fits.rest e)

-- so does a kind's form the amount of its values
pub value_fits : (v : Value) → Fits (duration_form (kind_of v)) (amount_of v)
unfolding has
value_fits (VV.Moment k d) = record { months = λ e. refl; rest = λ e. refl }
value_fits (VV.DayTime t) = record { months = λ e. refl; rest = λ e. absurd (never (sym e)) }
value_fits (VV.YearMonth m) = record { months = λ e. absurd (never (sym e)); rest = λ e. refl }

-- and of the amount it has the value
pub value_back : (v : Value) → is_moment (kind_of v) ≡ false → ok_value v ≡ true → amount_value (form_months (duration_form (kind_of v))) (amount_of v) ≡ v
unfolding has ok_value
value_back (VV.Moment k d) e ok = absurd (never (sym e ∙ (moment_good (VV.Moment k d) ok k d refl).0))
value_back (VV.DayTime t) e ok =
    ap (λ (n : ℕ). VV.DayTime (duration_of t.negative n)) (div-add-mod' (ticks_in t) second_ticks) ∙ ap VV.DayTime (duration_is t ok)
value_back (VV.YearMonth m) e ok = refl

-- what a form reads is valid, where its components count one sum alone
pub amount_valid : (f : Form) (s : List ℕ) (a : Amount) → one_alone f ≡ true → Counts (shape f.before f.after s) a → ok_value (amount_value (form_months f) a) ≡ true
unfolding ok_value
amount_valid f s a ok k = go (form_months f) ok
  where
    zero_sums : (a.sums.months + a.sums.seconds + a.ticks ≡ 0) → a.negative ≡ false
    zero_sums z = k.good.sign (eq-eqb (a.sums.months + a.sums.seconds + a.ticks) 0 z)

    go : (b : Bool)
        → pick b
        (both (all_pass (λ (c : ℕ). counts_months false c) f.before) (all_pass (λ (c : ℕ). counts_months true c) f.after))
        (both (all_pass (λ (c : ℕ). not (counts_months false c)) f.before) (all_pass (λ (c : ℕ). not (counts_months true c)) f.after)) ≡ true
        → ok_value (amount_value b a) ≡ true
    go true p =
        let o = only_months s f.before f.after (both_left _ _ p) (both_right _ _ p) in
        let m : a.sums.seconds ≡ 0 = sym (ap (λ (x : Sums). x.seconds) k.sums) ∙ o.0 in
        let u : a.ticks ≡ 0 = sym k.ticks ∙ o.1 in
        signed_ok max_year_month a.sums.months a.negative (months_within a k.good) (λ q. zero_sums (omega arith))
    go false p =
        let n : ℕ = a.sums.seconds * second_ticks + a.ticks in
        let m : a.sums.months ≡ 0 = sym (ap (λ (x : Sums). x.months) k.sums) ∙ only_seconds s f.before f.after (both_left _ _ p) (both_right _ _ p) in
        day_time_ok a.negative n (signed_ok max_day_time n a.negative (seconds_within a k.good) (λ q. zero_sums (omega arith)))
