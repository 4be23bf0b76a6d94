use borrow.Author.Tests.{le-leb, lt-leb}
use Rattle.operation_shifting.specs.Shifts.{moved_to}
use Rattle.basis.specs.Choice.{both}
use Rattle.operation_shifting.proofs.months.moved_to.Goals as goal

pub returns-then-year : goal.returns-then-year
unfolding moved_to both
returns-then-year c = simp (lt-leb, ← c.refused.ensures, c.if-year.true)

pub returns-then-year-2 : goal.returns-then-year-2
unfolding moved_to both
returns-then-year-2 c = simp (le-leb, lt-leb, ← c.refused-then-year-2.ensures, c.if-year-2.true, c.if-year.false)

pub returns : goal.returns
unfolding moved_to both
returns c = simp (le-leb, ← c.at_clock_of.ensures, ← c.lesser.ensures, ← c.month_days-last.ensures, c.if-year-2.false, c.if-year.false)
