use native.Mathlib.Omega.{arith}
use Rattle.calendar.proofs.Answers.{later_from, on_from_lem}
use Rattle.calendar.proofs.date_of.Goals as goal

pub returns-then-year_days-left : goal.returns-then-year_days-left
returns-then-year_days-left c =
    let a = c.args in
    let y = c.year_of-year.result in
    later_from a.n a.last y.year y.left (omega arith) (omega arith) (c.year_of-year.ensures.2 (omega arith))

pub returns : goal.returns
returns c =
    let a = c.args in
    let y = c.year_of-year.result in
    on_from_lem a.n a.last y.year y.left c.date_in.result (omega arith) (omega arith) (omega arith) c.date_in.ensures
