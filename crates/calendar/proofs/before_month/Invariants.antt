use mathlib.Core.Path.{◌≡◌}
use Prim.Native.Nat.{◌-◌}
use Rattle.calendar.specs.Calendar.{total, month_row, leap_row}
use Rattle.calendar.proofs.before_month.Given as goal

abbrev pub invariant-loop-m : goal.invariant-loop-m
invariant-loop-m l = l.n ≡ total (month_row (leap_row l.year)) (l.m - 1)
