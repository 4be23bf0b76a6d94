use Rattle.basis.proofs.Tests.{no, yes as good}
use Rattle.operation_ordering.specs.Order.{order_for}
use Rattle.operation.proofs.compare_for.Goals as goal

pub returns-then-not-offset_ok : goal.returns-then-not-offset_ok
unfolding order_for
returns-then-not-offset_ok c = simp (c.numbered.ensures, no c.offset_ok.ensures c.if-not-offset_ok.true)

pub compare_in-requires : goal.compare_in-requires
compare_in-requires c = good c.offset_ok.ensures c.if-not-offset_ok.false

pub returns : goal.returns
unfolding order_for
returns c = simp (← c.compare_in.ensures, good c.offset_ok.ensures c.if-not-offset_ok.false)
