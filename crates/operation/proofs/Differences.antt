-- Order and difference agree: of two values that are compared, the first is less exactly where the first minus the second
-- is negative, and they are equal exactly where it is zero.
use mathlib.Core.Path.{◌≡◌, refl, ap, sym, ◌∙◌}
use mathlib.Core.Bool.{Bool, true, false}
use Prim.Native.Nat.{ℕ, ◌+◌}
use native.Mathlib.Omega.{arith}
use lib.Dec.{eqb, ltb}
use borrow.Author.Tests.{ltb-true, ltb-false, eq-eqb, ne_eqb}
use Rattle.basis.specs.Choice.{pick, both}
use Rattle.basis.specs.Answer.{gives}
use Rattle.value.specs.Refusals.{outside, wrong_kind, beyond_result}
use Rattle.value.specs.Clocks.{ticks_in}
use Rattle.value.specs.Durations.{plus_half, minus_half, plus_ticks, minus_ticks, apart, less_ticks, less_months}
use Rattle.value.specs.Values.{ok_day_time, ok_year_month}
use Rattle.value.specs.Rows.{same_kind, is_moment}
use Rattle.value.specs.Kinds.{kind_of, ok_value}
use Rattle.value_instants.specs.Ticks.{instant_of}
use Rattle.value.specs.declared.Offset.{Offset}
use Rattle.value.specs.declared.Value.{Value}
use Rattle.value.specs.declared.Value.TheVariants as VV
use Rattle.value.proofs.ClockLaws.{ticks_of_duration}
use Rattle.value.proofs.KindParts.{moment_good}
use Rattle.value.proofs.RowLaws.{same_kind_lem}
use Rattle.operation_quantities.specs.Results.{in_ticks, in_months}
use Rattle.operation_quantities.proofs.Given.{given_rest, gives_same}
use Rattle.operation_arithmetic.specs.Sums.{sum_of, less_moment, difference_in, minus_in}
use Rattle.operation_arithmetic.proofs.Opposites.{plus_opposite, minus_opposite, plus_ticks_opposite, minus_ticks_opposite}
use Rattle.operation_ordering.specs.Order.{Order, less, equal, greater, up, down, order, value_order, order_in}
use Rattle.operation_ordering.proofs.OrderLaws.{ordered, comparable}

-- how a duration stands to zero, by its sign and magnitude; the other values have neither
abbrev sign_order : Bool → ℕ → Order
sign_order negative n = pick negative less (pick (eqb n 0) equal greater)

abbrev pub to_zero : Value → Order
to_zero (VV.Moment k d) = equal
to_zero (VV.DayTime t) = sign_order t.negative (ticks_in t)
to_zero (VV.YearMonth m) = sign_order m.negative m.months

-- p - q stands to zero as p stands to q
sign_is_order : (p q : ℕ) → sign_order (ltb p q) (apart p q) ≡ order p q
sign_is_order p q = go (ltb p q) (ltb q p) refl refl
  where
    go : (a b : Bool) → ltb p q ≡ a → ltb q p ≡ b → sign_order a (apart p q) ≡ pick a less (pick b greater equal)
    go true b h k = refl
    go false true h k =
        let l = ltb-true q p k in
        ap (λ (c : Bool). pick c equal greater) (ne_eqb (apart p q) 0 (λ e. omega arith))
    go false false h k =
        let l = ltb-false p q h in
        let m = ltb-false q p k in
        ap (λ (c : Bool). pick c equal greater) (eq-eqb (apart p q) 0 (omega arith))

ticks_order : (p q : ℕ) (v : Value) → in_ticks p q ≡ gives v → to_zero v ≡ order p q
unfolding in_ticks
ticks_order p q v e =
    let s = gives_same (VV.DayTime (less_ticks p q)) v (given_rest (ok_day_time (less_ticks p q)) (gives (VV.DayTime (less_ticks p q))) beyond_result v e) in
    ap to_zero (sym s) ∙ ap (sign_order (ltb p q)) (ticks_of_duration (ltb p q) (apart p q)) ∙ sign_is_order p q

months_order : (p q : ℕ) (v : Value) → in_months p q ≡ gives v → to_zero v ≡ order p q
unfolding in_months
months_order p q v e =
    let s = gives_same (VV.YearMonth (less_months p q)) v (given_rest (ok_year_month (less_months p q)) (gives (VV.YearMonth (less_months p q))) beyond_result v e) in
    ap to_zero (sym s) ∙ sign_is_order p q

-- the sides of a difference are those of the comparison
swapped : (p q r s : ℕ) → order (p + s) (q + r) ≡ order (p + s) (r + q)
swapped p q r s = let e : q + r ≡ r + q = omega arith in ap (order (p + s)) e

plain : (p q : ℕ) → order p q ≡ order (p + 0) (q + 0)
plain p q =
    let a : p ≡ p + 0 = omega arith in
    let b : q ≡ q + 0 = omega arith in
    λ i. order (a i) (b i)

abbrev holds_moment : Value → Bool
holds_moment (VV.Moment k d) = true
holds_moment (VV.DayTime t) = false
holds_moment (VV.YearMonth m) = false

moment_by_kind : (a : Value) → ok_value a ≡ true → holds_moment a ≡ is_moment (kind_of a)
unfolding is_moment
moment_by_kind (VV.Moment k d) g = sym (moment_good (VV.Moment k d) g k d refl).0
moment_by_kind (VV.DayTime t) g = refl
moment_by_kind (VV.YearMonth m) g = refl

module _ (o : Offset) where
  value_sign : (x y : Value) (v : Value) → holds_moment x ≡ holds_moment y → difference_in o x y ≡ gives v → to_zero v ≡ value_order o x y
  unfolding difference_in less_moment sum_of up down
  value_sign (VV.Moment j d) (VV.Moment k e) v h g =
      ticks_order (instant_of o d) (instant_of o e) v (given_rest (same_kind j k) (in_ticks (instant_of o d) (instant_of o e)) wrong_kind v g)
      ∙ plain (instant_of o d) (instant_of o e)
  value_sign (VV.Moment j d) (VV.DayTime s) v h g = cc
  value_sign (VV.Moment j d) (VV.YearMonth n) v h g = cc
  value_sign (VV.DayTime t) (VV.Moment k e) v h g = cc
  value_sign (VV.DayTime t) (VV.DayTime s) v h g =
      let p = plus_ticks_opposite s in
      let q = minus_ticks_opposite s in
      let f : in_ticks (plus_ticks t + minus_ticks s) (minus_ticks t + plus_ticks s) ≡ gives v
      = sym (λ i. in_ticks (plus_ticks t + p i) (minus_ticks t + q i)) ∙ g in
      ticks_order _ _ v f
      ∙ swapped (plus_ticks t) (minus_ticks t) (plus_ticks s) (minus_ticks s)
  value_sign (VV.DayTime t) (VV.YearMonth n) v h g = cc
  value_sign (VV.YearMonth m) (VV.Moment k e) v h g = cc
  value_sign (VV.YearMonth m) (VV.DayTime s) v h g = cc
  value_sign (VV.YearMonth m) (VV.YearMonth n) v h g =
      let p = plus_opposite n.negative n.months in
      let q = minus_opposite n.negative n.months in
      let f : in_months (plus_half m.negative m.months + minus_half n.negative n.months) (minus_half m.negative m.months + plus_half n.negative n.months) ≡ gives v
      = sym (λ i. in_months (plus_half m.negative m.months + p i) (minus_half m.negative m.months + q i)) ∙ g in
      months_order _ _ v f
      ∙ swapped (plus_half m.negative m.months) (minus_half m.negative m.months) (plus_half n.negative n.months) (minus_half n.negative n.months)

  -- what the comparison answers is how the difference stands to zero
  pub order_by_difference : (a b v : Value) (r : Order) → order_in o a b ≡ gives r → minus_in o a b ≡ gives v → to_zero v ≡ r
  unfolding minus_in
  order_by_difference a b v r e f =
      let c = comparable o a b r e in
      let k : kind_of a ≡ kind_of b = same_kind_lem (kind_of a) (kind_of b) c.same in
      let m : holds_moment a ≡ holds_moment b = moment_by_kind a c.left_ok ∙ ap is_moment k ∙ sym (moment_by_kind b c.right_ok) in
      let g = given_rest (both (ok_value a) (ok_value b)) (difference_in o a b) outside v f in
      value_sign a b v m g ∙ gives_same _ _ (sym (ordered o a b c) ∙ e)
