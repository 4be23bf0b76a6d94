-- How far the numbers that values are ordered by reach.
use mathlib.Core.Path.{◌≡◌, refl}
use mathlib.Core.Bool.{true}
use Prim.Native.Nat.{◌≤◌}
use native.Mathlib.Omega.{arith}
use Rattle.value.specs.Bounds.{max_day_time, max_year_month}
use Rattle.value.specs.Clocks.{ticks_in}
use Rattle.value.specs.Values.{ok_offset}
use Rattle.value.specs.Kinds.{ok_value}
use Rattle.value.specs.declared.Offset.{Offset}
use Rattle.value.specs.declared.Value.{Value}
use Rattle.value.specs.declared.Value.TheVariants as VV
use Rattle.value.proofs.ClockLaws.{ticks_to}
use Rattle.value.proofs.KindParts.{moment_good}
use Rattle.value.proofs.Signs.{signed_within}
use Rattle.operation_ordering.specs.Order.{up, down}
use Rattle.operation_shifting.proofs.Halves.{plus_to, minus_to}
use Rattle.operation_shifting.proofs.Reach.{instant_to}

pub up_to : (o : Offset) (v : Value) → ok_offset o ≡ true → ok_value v ≡ true → up o v ≤ max_day_time
unfolding up ok_value
up_to o (VV.Moment k d) go g = instant_to o d go (moment_good (VV.Moment k d) g k d refl).1
up_to o (VV.DayTime t) go g =
    let h = ticks_to t g in
    omega (arith, plus_to t.negative (ticks_in t))
up_to o (VV.YearMonth m) go g =
    let h = signed_within max_year_month m.months m.negative g in
    omega (arith, plus_to m.negative m.months)

pub down_to : (o : Offset) (v : Value) → ok_value v ≡ true → down o v ≤ max_day_time
unfolding down ok_value
down_to o (VV.Moment k d) g = omega arith
down_to o (VV.DayTime t) g =
    let h = ticks_to t g in
    omega (arith, minus_to t.negative (ticks_in t))
down_to o (VV.YearMonth m) g =
    let h = signed_within max_year_month m.months m.negative g in
    omega (arith, minus_to m.negative m.months)
