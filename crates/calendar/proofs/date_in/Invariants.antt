use mathlib.Core.Path.{◌≡◌}
use Prim.Native.Nat.{◌+◌, ◌-◌}
use Rattle.calendar.specs.Calendar.{total, month_row, leap_row}
use Rattle.calendar.proofs.date_in.Given as goal

abbrev pub invariant-loop-month : goal.invariant-loop-month
invariant-loop-month l = total (month_row (leap_row l.year)) (l.month - 1) + l.left ≡ l.n
