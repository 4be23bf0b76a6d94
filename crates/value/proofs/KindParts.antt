-- What a kind keeps of a record, and the test that it keeps all of it, through the record that the code has in hand;
-- what a value within the bounds has.
use mathlib.Core.Path.{◌≡◌, refl, ap, sym, ◌∙◌}
use mathlib.Core.Bool.{Bool, true, false}
use mathlib.Core.List.{List, [], ◌∷◌}
use Prim.Native.Nat.{ℕ, ◌≤◌}
use Prim.Native.Char.{code}
use lib.Dec.{eqb}
use borrow.Author.Tests.{eq-eqb, eqb-true}
use Rattle.std.specs.Prelude.{◌&&◌, None, Option, Some}
use Rattle.basis.specs.Choice.{pick, both, every}
use Rattle.basis.proofs.Tests.{both_left, both_right, both_true}
use Rattle.calendar.specs.declared.Date.{Date}
use Rattle.value.specs.Bounds.{max_year_month}
use Rattle.value.specs.Clocks.{at_clock_of, same_clock}
use Rattle.value.specs.Rows.{parts_in, is_moment, has, layout_of, template_of, kept_by, kept, of_kind}
use Rattle.value.specs.Values.{ok_date_time, ok_day_time, ok_year_month, date_in}
use Rattle.value.specs.Kinds.{ok_value}
use Rattle.value.specs.declared.Offset.TheVariants.{East, West}
use Rattle.value.specs.declared.DateTime.{DateTime}
use Rattle.value.specs.contracts.OffsetPartialEq.TheImpl.{eq-value as offset_eq}
use Rattle.std.specs.Option.{option_eq}
use Rattle.value.specs.contracts.DateTimePartialEq.TheImpl.{eq-value as record_eq}
use Rattle.value.specs.declared.DayTime.{DayTime}
use Rattle.value.specs.declared.YearMonth.{YearMonth}
use Rattle.value.specs.declared.Kind.{Kind}
use Rattle.value.specs.declared.OwnParts.{OwnParts}
use Rattle.value.specs.declared.Value.{Value}
use Rattle.value.specs.declared.Value.TheVariants as VV
use Rattle.value.proofs.Signs.{signed_within}
use Rattle.value.proofs.ClockLaws.{same_clock_self, same_clock_one}
use Rattle.value.specs.declared.Offset.{Offset}

-- as the code makes it: the parts that a kind has, its template, and the record whose clock is kept
module _ (k : Kind) (d t : DateTime) (own : OwnParts) (ep : own ≡ parts_in (layout_of k)) (et : t ≡ template_of k) where
  abbrev dated : ℕ → ℕ → ℕ → Date
  dated y m g = record { year = y; month = m; day = g }

  pub kept_by_lem : {y m g : ℕ} (b : Bool) → own.clock ≡ b → y ≡ pick own.year d.year t.year → m ≡ pick own.month d.month t.month
      → g ≡ pick own.day d.day t.day → at_clock_of (dated y m g) (pick b d t) d.zone ≡ kept k d
  kept_by_lem b eb ey em eg =
      (λ i. at_clock_of (dated (ey i) (em i) (eg i)) (pick (sym eb i) d t) d.zone)
      ∙ (λ i. at_clock_of
      (dated (pick (ep i).year d.year (et i).year) (pick (ep i).month d.month (et i).month) (pick (ep i).day d.day (et i).day))
      (pick (ep i).clock d (et i))
      d.zone)

pub of_kind_by : (k : Kind) (d x : DateTime) → x ≡ kept k d
    → every (eqb d.year x.year ∷ eqb d.month x.month ∷ eqb d.day x.day ∷ same_clock d x ∷ []) ≡ of_kind k d
unfolding of_kind
of_kind_by k d x e =
    λ i. every (eqb d.year (e i).year ∷ eqb d.month (e i).month ∷ eqb d.day (e i).day ∷ same_clock d (e i) ∷ [])

-- the test that a record equals what the kind keeps of it, as the code makes it: the zone is kept
zone_kept : (z : Option Offset) → option_eq offset_eq.it z z ≡ true
zone_kept None = refl
zone_kept (Some (East m)) = eq-eqb m m refl
zone_kept (Some (West m)) = eq-eqb m m refl

but_the_zone : (y m g s n : Bool) {z : Bool} → z ≡ true → (y && (m && (g && (s && (n && z))))) ≡ every (y ∷ m ∷ g ∷ both s n ∷ [])
unfolding every both
but_the_zone false m g s n e = refl
but_the_zone true false g s n e = refl
but_the_zone true true false s n e = refl
but_the_zone true true true false n e = refl
but_the_zone true true true true false e = refl
but_the_zone true true true true true e = e

pub of_kind_by_equality : (k : Kind) (d x : DateTime) → x ≡ kept k d → record_eq.it d x ≡ of_kind k d
unfolding of_kind same_clock
of_kind_by_equality k d x e =
    (λ i. record_eq.it d (e i))
    ∙ but_the_zone
    (eqb d.year (kept k d).year)
    (eqb d.month (kept k d).month)
    (eqb d.day (kept k d).day)
    (eqb d.second (kept k d).second)
    (eqb d.nanosecond (kept k d).nanosecond)
    (zone_kept d.zone)

-- a record is of a kind exactly where the kind keeps all of it
pub of_kind_kept : (k : Kind) (d : DateTime) → of_kind k d ≡ true → kept k d ≡ d
unfolding of_kind every
of_kind_kept k d e =
    let e1 = both_right _ _ e in
    let e2 = both_right _ _ e1 in
    let y : d.year ≡ (kept k d).year = eqb-true _ _ (both_left _ _ e) in
    let m : d.month ≡ (kept k d).month = eqb-true _ _ (both_left _ _ e1) in
    let g : d.day ≡ (kept k d).day = eqb-true _ _ (both_left _ _ e2) in
    let u : same_clock d (kept k d) ≡ true = both_left _ _ (both_right _ _ e2) in
    (λ i. at_clock_of (record { year = sym y i; month = sym m i; day = sym g i }) (kept k d) d.zone) ∙ sym (same_clock_one d (kept k d) (date_in d) d.zone u)

pub kept_of_kind : (k : Kind) (d : DateTime) → kept k d ≡ d → of_kind k d ≡ true
unfolding of_kind every
kept_of_kind k d e =
    both_true _ _ (eq-eqb _ _ (ap (λ (x : DateTime). x.year) (sym e)))
    (both_true _ _ (eq-eqb _ _ (ap (λ (x : DateTime). x.month) (sym e)))
    (both_true _ _ (eq-eqb _ _ (ap (λ (x : DateTime). x.day) (sym e)))
    (both_true _ _ (ap (same_clock d) e ∙ same_clock_self d) refl)))

-- what a row keeps it keeps again
pub again : {A : Type 0} (b : Bool) (x y : A) → pick b (pick b x y) y ≡ pick b x y
again true x y = refl
again false x y = refl

clock_again : (b : Bool) (e : Date) (d t : DateTime) (f : Date) → at_clock_of e (pick b (at_clock_of f (pick b d t) d.zone) t) d.zone ≡ at_clock_of e (pick b d t) d.zone
clock_again true e d t f = refl
clock_again false e d t f = refl

pub kept_again : (ps : List ℕ) (t d : DateTime) → kept_by ps t (kept_by ps t d) ≡ kept_by ps t d
kept_again ps t d =
    (λ i. at_clock_of
    (record {
      year = again (has ps (code "Y")) d.year t.year i;
      month = again (has ps (code "M")) d.month t.month i;
      day = again (has ps (code "D")) d.day t.day i;
    })
    (pick (has ps (code "h")) (kept_by ps t d) t)
    d.zone)
    ∙ clock_again (has ps (code "h")) (date_in (kept_by ps t d)) d t (date_in (kept_by ps t d))

-- a moment that passes each test is within the bounds
pub moment_ok : (k : Kind) (d : DateTime) → is_moment k ≡ true → ok_date_time d ≡ true → of_kind k d ≡ true → ok_value (VV.Moment k d) ≡ true
unfolding ok_value every both
moment_ok k d p q f = rw (p, q, f) refl

-- what a value within the bounds has, by its variant
module _ (v : Value) (g : ok_value v ≡ true) where
  pub moment_good : (k : Kind) (d : DateTime) → v ≡ VV.Moment k d → (is_moment k ≡ true) × (ok_date_time d ≡ true) × (of_kind k d ≡ true)
  unfolding ok_value every
  moment_good k d e =
      let h : ok_value (VV.Moment k d) ≡ true = ap ok_value (sym e) ∙ g in
      let h1 = both_right _ _ h in
      (both_left _ _ h, both_left _ _ h1, both_left _ _ (both_right _ _ h1))

  pub day_time_good : (d : DayTime) → v ≡ VV.DayTime d → ok_day_time d ≡ true
  unfolding ok_value
  day_time_good d e = ap ok_value (sym e) ∙ g

  pub year_month_good : (d : YearMonth) → v ≡ VV.YearMonth d → ok_year_month d ≡ true
  unfolding ok_value
  year_month_good d e = ap ok_value (sym e) ∙ g

  pub year_month_within : (d : YearMonth) → v ≡ VV.YearMonth d → d.months ≤ max_year_month
  year_month_within d e = signed_within max_year_month d.months d.negative (year_month_good d e)
