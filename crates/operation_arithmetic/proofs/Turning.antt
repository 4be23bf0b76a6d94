-- Plus is the same either way round, refusals included.
use mathlib.Core.Path.{◌≡◌, refl}
use mathlib.Core.Bool.{Bool, true, false}
use Prim.Native.Nat.{ℕ, ◌+◌}
use native.Mathlib.Omega.{arith}
use Rattle.basis.specs.Choice.{pick, both}
use Rattle.basis.specs.Answer.{refuses}
use Rattle.value.specs.Refusals.{outside}
use Rattle.value.specs.Durations.{plus_half, minus_half, plus_ticks, minus_ticks}
use Rattle.value.specs.Kinds.{ok_value}
use Rattle.value.specs.declared.Value.{Value}
use Rattle.value.specs.declared.Value.TheVariants.{Moment, DayTime, YearMonth}
use Rattle.operation_quantities.specs.Results.{in_ticks, in_months}
use Rattle.operation_arithmetic.specs.Sums.{sum_of, plus_of}

added_turned : (p q : ℕ) → p + q ≡ q + p
added_turned p q = omega arith

tests_turned : (a b : Bool) → both a b ≡ both b a
unfolding both
tests_turned true true = refl
tests_turned true false = refl
tests_turned false true = refl
tests_turned false false = refl

sum_turned : (x y : Value) → sum_of x y ≡ sum_of y x
unfolding sum_of
sum_turned (Moment k d) (Moment j e) = refl
sum_turned (Moment k d) (DayTime t) = refl
sum_turned (Moment k d) (YearMonth m) = refl
sum_turned (DayTime t) (Moment k d) = refl
sum_turned (DayTime t) (DayTime s) =
    λ i. in_ticks (added_turned (plus_ticks t) (plus_ticks s) i) (added_turned (minus_ticks t) (minus_ticks s) i)
sum_turned (DayTime t) (YearMonth m) = refl
sum_turned (YearMonth m) (Moment k d) = refl
sum_turned (YearMonth m) (DayTime t) = refl
sum_turned (YearMonth m) (YearMonth n) =
    λ i.
    in_months (added_turned (plus_half m.negative m.months) (plus_half n.negative n.months) i)
    (added_turned (minus_half m.negative m.months) (minus_half n.negative n.months) i)

pub plus_turned : (a b : Value) → plus_of a b ≡ plus_of b a
unfolding plus_of
plus_turned a b = λ i. pick (tests_turned (ok_value a) (ok_value b) i) (sum_turned a b i) (refuses outside)
