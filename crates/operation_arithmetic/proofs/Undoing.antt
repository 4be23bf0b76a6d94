-- Plus and minus of a dayTimeDuration undo each other: for kinds with a clock, and for those with a whole date alone
-- where the duration is whole days. Only the first of the two can be refused.
use mathlib.Core.Path.{◌≡◌, refl, ap, sym, ◌∙◌}
use mathlib.Core.Bool.{Bool, true, false}
use Prim.Native.Nat.{ℕ, ◌+◌, ◌-◌, ◌%◌}
use lib.Dec.{eqb}
use borrow.Author.Tests.{eqb-true}
use Rattle.basis.specs.Choice.{pick, both, every}
use Rattle.basis.specs.Answer.{gives, refuses}
use Rattle.basis.proofs.Tests.{never, both_left, both_right, both_true}
use Rattle.value.specs.Bounds.{day_ticks}
use Rattle.value.specs.Refusals.{outside}
use Rattle.value.specs.Values.{ok_date_time}
use Rattle.value.specs.Clocks.{ticks_in}
use Rattle.value.specs.Durations.{plus_half, minus_half, plus_ticks, minus_ticks}
use Rattle.value.specs.Rows.{has, is_moment, is_dated, is_clocked, kept, of_kind}
use Rattle.value.specs.Kinds.{kind_of, ok_value}
use Rattle.value_instants.specs.Ticks.{local_of, at_local}
use Rattle.value.specs.declared.Offset.{Offset}
use Rattle.value.specs.declared.DateTime.{DateTime}
use Rattle.value.specs.declared.DayTime as D
use Rattle.value.specs.declared.Kind.{Kind}
use Rattle.value.specs.declared.Value.{Value}
use Rattle.value.specs.declared.Value.TheVariants as VV
use Rattle.value.proofs.KindParts.{moment_good}
use Rattle.operation_shifting.specs.Shifts.{wrapped, shifted}
use Rattle.operation_quantities.proofs.Given.{given_test, gives_same}
use Rattle.operation_shifting.proofs.Steps.{dated_shift, clocked_shift}
use Rattle.operation_shifting.proofs.Undo.{placed_gives, given_in_years, dated_undone, clocked_undone}
use Rattle.operation_arithmetic.specs.Sums.{sum_of, plus_of, difference_in, minus_in}
use Rattle.operation_arithmetic.proofs.Opposites.{plus_ticks_opposite, minus_ticks_opposite}
use Rattle.operation_arithmetic.proofs.Validity.{plus_within, minus_within}

-- the kinds and durations of which this holds
abbrev pub comes_back : Kind → D.DayTime → Bool
comes_back k t = pick (is_clocked k) true (both (is_dated k) (eqb (ticks_in t % day_ticks) 0))

-- the record of a shift
abbrev shifted_record : Kind → DateTime → ℕ → ℕ → DateTime
shifted_record k d p q = pick (is_dated k) (kept k (at_local (local_of d + p - q) d.zone)) (wrapped d p q)

-- a kind that comes back has a whole date or a clock
dated_or_clocked : (k : Kind) (t : D.DayTime) → is_dated k ≡ false → comes_back k t ≡ true → is_clocked k ≡ true
unfolding both
dated_or_clocked k t n c = go (is_clocked k) refl c
  where
    go : (b : Bool) → is_clocked k ≡ b → pick b true (both (is_dated k) (eqb (ticks_in t % day_ticks) 0)) ≡ true → is_clocked k ≡ true
    go true e h = e
    go false e h = absurd (never (sym n ∙ both_left _ _ h))

whole_where_no_clock : (k : Kind) (t : D.DayTime) → comes_back k t ≡ true → is_clocked k ≡ false → ticks_in t % day_ticks ≡ 0
whole_where_no_clock k t c e =
    let h : both (is_dated k) (eqb (ticks_in t % day_ticks) 0) ≡ true = (λ i. pick (sym e i) true (both (is_dated k) (eqb (ticks_in t % day_ticks) 0))) ∙ c in
    eqb-true (ticks_in t % day_ticks) 0 (both_right _ _ h)

module _ (k : Kind) (d : DateTime) (t : D.DayTime) (p q : ℕ) (b : Value) (c : comes_back k t ≡ true) (e : shifted k d p q ≡ gives b) where
  shift_given : b ≡ VV.Moment k (shifted_record k d p q)
  shift_given = go (is_dated k) refl
    where
      go : (x : Bool) → is_dated k ≡ x → b ≡ VV.Moment k (pick x (kept k (at_local (local_of d + p - q) d.zone)) (wrapped d p q))
      go true n =
          let s = sym (dated_shift k d p q n) ∙ e in
          gives_same _ _ (sym s ∙ placed_gives k (local_of d + p - q) d.zone (given_in_years k (local_of d + p - q) d.zone b s))
      go false n = gives_same _ _ (sym e ∙ clocked_shift k d p q n (dated_or_clocked k t n c))

  -- forth by p - q and back, p and q being whole days for a kind without a clock
  back : ok_value (VV.Moment k d) ≡ true → (ticks_in t % day_ticks ≡ 0 → (p % day_ticks ≡ 0) × (q % day_ticks ≡ 0))
      → shifted k (shifted_record k d p q) q p ≡ gives (VV.Moment k d)
  back g w = go (is_dated k) refl
    where
      h : (is_moment k ≡ true) × (ok_date_time d ≡ true) × (of_kind k d ≡ true)
      h = moment_good (VV.Moment k d) g k d refl

      go : (x : Bool) → is_dated k ≡ x → shifted k (shifted_record k d p q) q p ≡ gives (VV.Moment k d)
      go true n =
          dated_undone k n d (shifted_record k d p q) p q h.1 h.2 (λ u. w (whole_where_no_clock k t c u)) (e ∙ ap gives shift_given)
      go false n = clocked_undone k d (shifted_record k d p q) p q n (dated_or_clocked k t n c) h.1 (e ∙ ap gives shift_given)

half_whole : (n : Bool) (m : ℕ) → m % day_ticks ≡ 0 → (plus_half n m % day_ticks ≡ 0) × (minus_half n m % day_ticks ≡ 0)
half_whole true m e = (refl, e)
half_whole false m e = (e, refl)

-- a value that was answered: both sides are within the bounds
plus_tested : (a b v : Value) → plus_of a b ≡ gives v → both (ok_value a) (ok_value b) ≡ true
unfolding plus_of
plus_tested a b v e = given_test (both (ok_value a) (ok_value b)) (sum_of a b) outside v e

minus_tested : (o : Offset) (a b v : Value) → minus_in o a b ≡ gives v → both (ok_value a) (ok_value b) ≡ true
unfolding minus_in
minus_tested o a b v e = given_test (both (ok_value a) (ok_value b)) (difference_in o a b) outside v e

-- plus and minus of a duration as shifts
plus_shift : (k : Kind) (d : DateTime) (t : D.DayTime) → ok_value (VV.Moment k d) ≡ true → ok_value (VV.DayTime t) ≡ true
    → plus_of (VV.Moment k d) (VV.DayTime t) ≡ shifted k d (plus_ticks t) (minus_ticks t)
unfolding plus_of sum_of
plus_shift k d t g h =
    let b : both (ok_value (VV.Moment k d)) (ok_value (VV.DayTime t)) ≡ true = both_true _ _ g h in
    λ i. pick (b i) (shifted k d (plus_ticks t) (minus_ticks t)) (refuses outside)

minus_shift : (o : Offset) (k : Kind) (d : DateTime) (t : D.DayTime) → ok_value (VV.Moment k d) ≡ true → ok_value (VV.DayTime t) ≡ true
    → minus_in o (VV.Moment k d) (VV.DayTime t) ≡ shifted k d (minus_ticks t) (plus_ticks t)
unfolding minus_in difference_in sum_of
minus_shift o k d t g h =
    let b : both (ok_value (VV.Moment k d)) (ok_value (VV.DayTime t)) ≡ true = both_true _ _ g h in
    (λ i. pick (b i) (difference_in o (VV.Moment k d) (VV.DayTime t)) (refuses outside))
    ∙ (λ i. shifted k d (plus_ticks_opposite t i) (minus_ticks_opposite t i))

module _ (o : Offset) (k : Kind) (d : DateTime) (t : D.DayTime) (c : comes_back k t ≡ true) where
  plus_back : (b : Value) → plus_of (VV.Moment k d) (VV.DayTime t) ≡ gives b → minus_in o b (VV.DayTime t) ≡ gives (VV.Moment k d)
  plus_back b e =
      let g : both (ok_value (VV.Moment k d)) (ok_value (VV.DayTime t)) ≡ true = plus_tested (VV.Moment k d) (VV.DayTime t) b e in
      let ga = both_left _ _ g in
      let gt = both_right _ _ g in
      let s = sym (plus_shift k d t ga gt) ∙ e in
      let r = shift_given k d t (plus_ticks t) (minus_ticks t) b c s in
      let gb : ok_value (VV.Moment k (shifted_record k d (plus_ticks t) (minus_ticks t))) ≡ true
      = ap ok_value (sym r) ∙ plus_within (VV.Moment k d) (VV.DayTime t) b e in
      ap (λ (v : Value). minus_in o v (VV.DayTime t)) r ∙ minus_shift o k _ t gb gt
      ∙ back k d t _ _ b c s ga (λ w. half_whole t.negative (ticks_in t) w)

  minus_back : (b : Value) → minus_in o (VV.Moment k d) (VV.DayTime t) ≡ gives b → plus_of b (VV.DayTime t) ≡ gives (VV.Moment k d)
  minus_back b e =
      let g : both (ok_value (VV.Moment k d)) (ok_value (VV.DayTime t)) ≡ true = minus_tested o (VV.Moment k d) (VV.DayTime t) b e in
      let ga = both_left _ _ g in
      let gt = both_right _ _ g in
      let s = sym (minus_shift o k d t ga gt) ∙ e in
      let r = shift_given k d t (minus_ticks t) (plus_ticks t) b c s in
      let gb : ok_value (VV.Moment k (shifted_record k d (minus_ticks t) (plus_ticks t))) ≡ true
      = ap ok_value (sym r) ∙ minus_within o (VV.Moment k d) (VV.DayTime t) b e in
      ap (λ (v : Value). plus_of v (VV.DayTime t)) r ∙ plus_shift k _ t gb gt
      ∙ back k d t _ _ b c s ga (λ w. let h = half_whole t.negative (ticks_in t) w in (h.1, h.0))

pub plus_undone : (o : Offset) (a b : Value) (t : D.DayTime) → comes_back (kind_of a) t ≡ true
    → plus_of a (VV.DayTime t) ≡ gives b → minus_in o b (VV.DayTime t) ≡ gives a
unfolding is_dated is_clocked has every both
plus_undone o (VV.Moment k d) b t c e = plus_back o k d t c b e
plus_undone o (VV.DayTime s) b t c e = cc
plus_undone o (VV.YearMonth m) b t c e = cc

pub minus_undone : (o : Offset) (a b : Value) (t : D.DayTime) → comes_back (kind_of a) t ≡ true
    → minus_in o a (VV.DayTime t) ≡ gives b → plus_of b (VV.DayTime t) ≡ gives a
unfolding is_dated is_clocked has every both
minus_undone o (VV.Moment k d) b t c e = minus_back o k d t c b e
minus_undone o (VV.DayTime s) b t c e = cc
minus_undone o (VV.YearMonth m) b t c e = cc
