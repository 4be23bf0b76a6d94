use native.Mathlib.Omega.{arith}
use Rattle.calendar.specs.Calendar.{total, month_row, leap_row}
use Rattle.calendar.proofs.Months.{month_in, next_month, dated_in}
use Rattle.calendar.proofs.date_in.Goals as goal

pub loop-month-init : goal.loop-month-init
unfolding total
loop-month-init c = omega arith

pub returns-then-left-len : goal.returns-then-left-len
returns-then-left-len c =
    let a = c.args in
    let l = c.loop-month in
    dated_in a.year a.n l.month l.left (omega arith) (omega arith) (omega arith) (omega arith)

pub loop-month-preserved : goal.loop-month-preserved
loop-month-preserved c = omega (arith, next_month (month_row (leap_row c.args.year)) c.loop-month.month (omega arith))

pub unreachable-requires : goal.unreachable-requires
unreachable-requires c =
    let a = c.args in
    let l = c.loop-month in
    omega (arith, month_in a.year l.month l.left a.n (omega arith) (omega arith))
