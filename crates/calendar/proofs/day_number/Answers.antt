use native.Mathlib.Omega.{arith}
use Prim.Native.Nat.{◌-◌}
use Rattle.calendar.specs.Calendar.{leap_row}
use Rattle.calendar.proofs.Years.{years_le}
use Rattle.calendar.proofs.Months.{months_le}
use Rattle.calendar.proofs.day_number.Goals as goal

pub overflow_add-result : goal.overflow_add-result
overflow_add-result c = omega (arith, years_le c.args.d.year, months_le (leap_row c.args.d.year) (c.args.d.month - 1))

pub overflow_add-result-2 : goal.overflow_add-result-2
overflow_add-result-2 c = omega (arith, years_le c.args.d.year, months_le (leap_row c.args.d.year) (c.args.d.month - 1))
