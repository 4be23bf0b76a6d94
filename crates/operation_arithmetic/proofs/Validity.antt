-- Every value that a sum, a difference or a product answers is within its kind's bounds.
use mathlib.Core.Path.{◌≡◌, refl}
use mathlib.Core.Bool.{Bool, true, false}
use Prim.Native.Nat.{ℕ}
use lib.Dec.{leb}
use Rattle.basis.specs.Choice.{both}
use Rattle.basis.specs.Answer.{gives, refuses}
use Rattle.basis.proofs.Tests.{both_left, both_right}
use Rattle.value.specs.Refusals.{outside, wrong_kind}
use Rattle.value.specs.Durations.{plus_half, minus_half, plus_ticks, minus_ticks}
use Rattle.value.specs.Values.{ok_offset}
use Rattle.value.specs.Rows.{same_kind}
use Rattle.value.specs.Kinds.{ok_value}
use Rattle.value.specs.Carried.{valid}
use Rattle.value_instants.specs.Ticks.{instant_of}
use Rattle.value.specs.declared.Offset.{Offset}
use Rattle.value.specs.declared.DateTime.{DateTime}
use Rattle.value.specs.declared.Kind.{Kind}
use Rattle.value.specs.declared.Value.{Value}
use Rattle.value.specs.declared.Value.TheVariants.{Moment, DayTime, YearMonth}
use Rattle.operation_quantities.specs.Results.{in_ticks}
use Rattle.operation_quantities.proofs.Given.{valid_given, valid_pick}
use Rattle.operation_shifting.proofs.Valid.{ticks_valid, months_valid, moved_valid, shifted_valid}
use Rattle.operation_arithmetic.specs.Sums.{sum_of, plus_of, opposite, opposite_months, less_moment, difference_in, minus_in, minus_for}
use Rattle.operation_arithmetic.specs.Products.{max_factor, product_of, times_of}
use Rattle.operation_arithmetic.proofs.Opposites.{opposite_ok, opposite_months_ok}

-- sums and differences
sum_valid : (x y : Value) → ok_value x ≡ true → ok_value y ≡ true → valid (sum_of x y) ≡ true
unfolding sum_of
sum_valid (Moment k d) (DayTime t) gx gy = shifted_valid k d (plus_ticks t) (minus_ticks t) gx
sum_valid (Moment k d) (YearMonth m) gx gy = moved_valid k d (plus_half m.negative m.months) (minus_half m.negative m.months) gx
sum_valid (Moment k d) (Moment j e) gx gy = refl
sum_valid (DayTime t) (Moment k d) gx gy = shifted_valid k d (plus_ticks t) (minus_ticks t) gy
sum_valid (DayTime t) (DayTime s) gx gy = ticks_valid _ _
sum_valid (DayTime t) (YearMonth m) gx gy = refl
sum_valid (YearMonth m) (Moment k d) gx gy = moved_valid k d (plus_half m.negative m.months) (minus_half m.negative m.months) gy
sum_valid (YearMonth m) (DayTime t) gx gy = refl
sum_valid (YearMonth m) (YearMonth n) gx gy = months_valid _ _

pub plus_valid : (a b : Value) → valid (plus_of a b) ≡ true
unfolding plus_of
plus_valid a b =
    valid_pick (both (ok_value a) (ok_value b)) (sum_of a b) (refuses outside)
    (λ e. sum_valid a b (both_left _ _ e) (both_right _ _ e)) refl

less_valid : (o : Offset) (x : Value) (k : Kind) (e : DateTime) → valid (less_moment o x k e) ≡ true
unfolding less_moment
less_valid o (Moment j d) k e =
    valid_pick (same_kind j k) (in_ticks (instant_of o d) (instant_of o e)) (refuses wrong_kind) (λ s. ticks_valid (instant_of o d) (instant_of o e)) refl
less_valid o (DayTime t) k e = refl
less_valid o (YearMonth m) k e = refl

difference_valid : (o : Offset) (x y : Value) → ok_value x ≡ true → ok_value y ≡ true → valid (difference_in o x y) ≡ true
unfolding difference_in ok_value
difference_valid o x (Moment k e) gx gy = less_valid o x k e
difference_valid o x (DayTime t) gx gy = sum_valid x (DayTime (opposite t)) gx (opposite_ok t gy)
difference_valid o x (YearMonth m) gx gy = sum_valid x (YearMonth (opposite_months m)) gx (opposite_months_ok m gy)

pub minus_valid : (o : Offset) (a b : Value) → valid (minus_in o a b) ≡ true
unfolding minus_in
minus_valid o a b =
    valid_pick (both (ok_value a) (ok_value b)) (difference_in o a b) (refuses outside)
    (λ e. difference_valid o a b (both_left _ _ e) (both_right _ _ e)) refl

pub minus_for_valid : (zone : Offset) (a b : Value) → valid (minus_for zone a b) ≡ true
unfolding minus_for
minus_for_valid zone a b = valid_pick (ok_offset zone) (minus_in zone a b) (refuses outside) (λ e. minus_valid zone a b) refl

-- products
product_valid : (x : Value) (negative : Bool) (n : ℕ) → valid (product_of x negative n) ≡ true
unfolding product_of
product_valid (Moment k d) negative n = refl
product_valid (DayTime t) true n = ticks_valid _ _
product_valid (DayTime t) false n = ticks_valid _ _
product_valid (YearMonth m) true n = months_valid _ _
product_valid (YearMonth m) false n = months_valid _ _

pub times_valid : (a : Value) (negative : Bool) (n : ℕ) → valid (times_of a negative n) ≡ true
unfolding times_of
times_valid a negative n =
    valid_pick (both (ok_value a) (leb n max_factor)) (product_of a negative n) (refuses outside)
    (λ e. product_valid a negative n) refl

-- so a value that is answered is within the bounds
pub plus_within : (a b v : Value) → plus_of a b ≡ gives v → ok_value v ≡ true
plus_within a b v e = valid_given (plus_of a b) v (plus_valid a b) e

pub minus_within : (o : Offset) (a b v : Value) → minus_in o a b ≡ gives v → ok_value v ≡ true
minus_within o a b v e = valid_given (minus_in o a b) v (minus_valid o a b) e

pub minus_for_within : (zone : Offset) (a b v : Value) → minus_for zone a b ≡ gives v → ok_value v ≡ true
minus_for_within zone a b v e = valid_given (minus_for zone a b) v (minus_for_valid zone a b) e

pub times_within : (a : Value) (negative : Bool) (n : ℕ) (v : Value) → times_of a negative n ≡ gives v → ok_value v ≡ true
times_within a negative n v e = valid_given (times_of a negative n) v (times_valid a negative n) e
