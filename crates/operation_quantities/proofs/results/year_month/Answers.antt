use borrow.Author.Tests.{le-leb, lt-leb}
use Rattle.operation_quantities.proofs.results.year_month.Goals as goal

pub returns-then-n : goal.returns-then-n
returns-then-n c = simp (lt-leb, ← c.refused.ensures, c.if-n.true)

pub returns : goal.returns
returns c = simp (le-leb, c.if-n.false)
