use native.Mathlib.Omega.{arith}
use Rattle.calendar.proofs.Leap.{leap_le}
use Rattle.calendar.proofs.year_days.Goals as goal

pub overflow_add-result : goal.overflow_add-result
overflow_add-result c = omega (arith, leap_le c.args.year)
