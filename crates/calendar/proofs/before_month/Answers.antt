use mathlib.Core.Path.{refl}
use Prim.Native.Nat.{◌-◌}
use native.Mathlib.Omega.{arith}
use Rattle.calendar.specs.Calendar.{total, month_row, leap_row}
use Rattle.calendar.proofs.Months.{month_le, months_le, next_month}
use Rattle.calendar.proofs.before_month.Goals as goal

pub loop-m-init : goal.loop-m-init
unfolding total
loop-m-init c = refl

pub overflow_add-n : goal.overflow_add-n
overflow_add-n c = omega (arith, month_le (leap_row c.args.year) (c.loop-m.m - 1), months_le (leap_row c.args.year) (c.loop-m.m - 1))

pub loop-m-preserved : goal.loop-m-preserved
loop-m-preserved c = omega (arith, next_month (month_row (leap_row c.args.year)) c.loop-m.m (omega arith))
