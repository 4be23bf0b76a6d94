use native.Mathlib.Omega.{arith}
use Rattle.calendar.proofs.Leap.{leap_le}
use Rattle.calendar.proofs.month_days.Goals as goal

pub offset_bounds-row : goal.offset_bounds-row
offset_bounds-row c = omega (arith, leap_le c.args.year)

pub returns : goal.returns
returns c = simp c.leap_row-row.ensures
