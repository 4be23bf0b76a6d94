-- What a cast gives is of the kind asked for and within the bounds; a cast of a kind to itself changes nothing; and a
-- cast by way of a kind that has all the parts of the last is the last cast alone.
use Rattle.std.specs.Prelude.{Option}
use mathlib.Core.Path.{◌≡◌, refl, ap, sym, ◌∙◌}
use mathlib.Core.Bool.{Bool, true, false}
use Prim.Native.Char.{code}
use Rattle.basis.specs.Choice.{pick, both, every}
use Rattle.basis.specs.Answer.{gives, refuses}
use Rattle.basis.proofs.Tests.{both_left, both_right, every_fails, never}
use Rattle.calendar.specs.declared.Date.{Date}
use Rattle.value.specs.Refusals.{outside, wrong_kind}
use Rattle.value.specs.Rows.{template_of, same_kind, has, has_part, is_moment, is_dated, kept}
use Rattle.value.specs.Clocks.{at_clock_of}
use Rattle.value.specs.Values.{date_in}
use Rattle.value.specs.Kinds.{kind_of, ok_value}
use Rattle.value.specs.declared.DateTime.{DateTime}
use Rattle.value.specs.declared.Kind.{Kind}
use Rattle.value.specs.declared.Kind.TheVariants as KV
use Rattle.value.specs.declared.Value.{Value}
use Rattle.value.specs.declared.Value.TheVariants as VV
use Rattle.value.proofs.KindParts.{of_kind_kept, moment_good, moment_ok}
use Rattle.value.proofs.RowLaws.{same_kind_lem, own_kind, cast_of_kind, cast_good}
use Rattle.operation_casting.specs.Casts.{own_within, parts_within, casts_across, casts_to, cast_to, cast_of}
use Rattle.value.specs.declared.Offset.{Offset}

-- a cast of a kind to itself
to_itself : (k : Kind) → casts_to k k ≡ true
unfolding casts_to
to_itself k = let s = own_kind k in λ i. pick (s i) true (casts_across k k)

same_value_lem : (a : Value) → ok_value a ≡ true → cast_to (kind_of a) a ≡ a
unfolding cast_to
same_value_lem (VV.Moment k d) g = ap (VV.Moment k) (of_kind_kept k d (moment_good (VV.Moment k d) g k d refl).2)
same_value_lem (VV.DayTime t) g = refl
same_value_lem (VV.YearMonth m) g = refl

pub cast_to_itself : (a : Value) → ok_value a ≡ true → cast_of a (kind_of a) ≡ gives a
unfolding cast_of
cast_to_itself a g =
    let c = to_itself (kind_of a) in
    (λ i. pick (g i) (pick (casts_to (kind_of a) (kind_of a)) (gives (cast_to (kind_of a) a)) (refuses wrong_kind)) (refuses outside))
    ∙ (λ i. pick (c i) (gives (cast_to (kind_of a) a)) (refuses wrong_kind))
    ∙ ap gives (same_value_lem a g)

-- a moment casts to moments alone
cast_moment : (j k : Kind) → is_moment j ≡ true → casts_to j k ≡ true → is_moment k ≡ true
unfolding casts_to casts_across every
cast_moment j k m c = go (same_kind j k) refl c
  where
    go : (b : Bool) → same_kind j k ≡ b → pick b true (casts_across j k) ≡ true → is_moment k ≡ true
    go true e h = ap is_moment (sym (same_kind_lem j k e)) ∙ m
    go false e h = both_left _ _ (both_right _ _ h)

-- a kind without year, month and day casts to itself alone
only_itself : (j k : Kind) → is_dated j ≡ false → casts_to j k ≡ true → j ≡ k
unfolding casts_to casts_across
only_itself j k d c = go (same_kind j k) refl c
  where
    go : (b : Bool) → same_kind j k ≡ b → pick b true (casts_across j k) ≡ true → j ≡ k
    go true e h = same_kind_lem j k e
    go false e h = absurd (never (sym (every_fails (is_dated j) _ d) ∙ h))

-- what a cast gives is of the kind asked for
pub cast_kind : (a : Value) (k : Kind) → casts_to (kind_of a) k ≡ true → kind_of (cast_to k a) ≡ k
unfolding cast_to is_dated has every both
cast_kind (VV.Moment j d) k c = refl
cast_kind (VV.DayTime t) k c = only_itself KV.DayTimeDuration k refl c
cast_kind (VV.YearMonth m) k c = only_itself KV.YearMonthDuration k refl c

-- and within the bounds
pub cast_to_valid : (a : Value) (k : Kind) → ok_value a ≡ true → casts_to (kind_of a) k ≡ true → ok_value (cast_to k a) ≡ true
unfolding cast_to
cast_to_valid (VV.Moment j d) k g c =
    let h = moment_good (VV.Moment j d) g j d refl in
    moment_ok k (kept k d) (cast_moment j k h.0 c) (cast_good k d h.1) (cast_of_kind k d)
cast_to_valid (VV.DayTime t) k g c = g
cast_to_valid (VV.YearMonth m) k g c = g

-- by way of another kind
through_part : {A : Type 0} (a b : Bool) (x y z : A) → pick a b true ≡ true → pick a (pick b x y) z ≡ pick a x z
through_part true true x y z e = refl
through_part true false x y z e = cc
through_part false b x y z e = refl

through_clock : (a b : Bool) (e f : Date) (d u t : DateTime) (z : Option Offset) → pick a b true ≡ true
    → at_clock_of e (pick a (at_clock_of f (pick b d u) z) t) z ≡ at_clock_of e (pick a d t) z
through_clock true true e f d u t z h = refl
through_clock true false e f d u t z h = absurd (never h)
through_clock false b e f d u t z h = refl

kept_through : (j k : Kind) (d : DateTime) → parts_within k j ≡ true → kept k (kept j d) ≡ kept k d
unfolding own_within every
kept_through j k d e =
    let e1 = both_right _ _ e in
    let e2 = both_right _ _ e1 in
    let y : pick (has_part k (code "Y")) (has_part j (code "Y")) true ≡ true = both_left _ _ e in
    let m : pick (has_part k (code "M")) (has_part j (code "M")) true ≡ true = both_left _ _ e1 in
    let g : pick (has_part k (code "D")) (has_part j (code "D")) true ≡ true = both_left _ _ e2 in
    let h : pick (has_part k (code "h")) (has_part j (code "h")) true ≡ true = both_left _ _ (both_right _ _ e2) in
    (λ i.
    at_clock_of
    (record {
      year = through_part (has_part k (code "Y")) (has_part j (code "Y")) d.year (template_of j).year (template_of k).year y i;
      month = through_part (has_part k (code "M")) (has_part j (code "M")) d.month (template_of j).month (template_of k).month m i;
      day = through_part (has_part k (code "D")) (has_part j (code "D")) d.day (template_of j).day (template_of k).day g i;
    })
    (pick (has_part k (code "h")) (kept j d) (template_of k))
    d.zone)
    ∙ through_clock (has_part k (code "h")) (has_part j (code "h")) (date_in (kept k d)) (date_in (kept j d)) d (template_of j) (template_of k) d.zone h

pub cast_through : (a : Value) (j k : Kind) → parts_within k j ≡ true → cast_to k (cast_to j a) ≡ cast_to k a
unfolding cast_to
cast_through (VV.Moment i d) j k e = ap (VV.Moment k) (kept_through j k d e)
cast_through (VV.DayTime t) j k e = refl
cast_through (VV.YearMonth m) j k e = refl
