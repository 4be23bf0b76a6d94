use Rattle.basis.proofs.Tests.{no, yes as good}
use Rattle.value.proofs.RowLaws.{kinds_apart, kinds_one}
use Rattle.operation_ordering.specs.Order.{order_in}
use Rattle.basis.specs.Choice.{both}
use Rattle.operation_ordering.proofs.compare_in.Goals as goal

pub returns-then-not-value_ok : goal.returns-then-not-value_ok
unfolding order_in both
returns-then-not-value_ok c = simp (← c.refused.ensures, no c.value_ok.ensures c.if-not-value_ok.true)

pub returns-then-not-value_ok-2 : goal.returns-then-not-value_ok-2
unfolding order_in both
returns-then-not-value_ok-2 c = simp (← c.refused-then-not-value_ok-2.ensures, no c.value_ok-2.ensures c.if-not-value_ok-2.true, good c.value_ok.ensures c.if-not-value_ok.false)

pub returns-then-ne : goal.returns-then-ne
unfolding order_in both
returns-then-ne c = simp (← c.refused-then-ne.ensures, kinds_apart _ _ c.ne.ensures c.if-ne.true, ← c.kind-2.ensures, ← c.kind.ensures, good c.value_ok-2.ensures c.if-not-value_ok-2.false, good c.value_ok.ensures c.if-not-value_ok.false)

pub order_of-requires : goal.order_of-requires
order_of-requires c = (good c.value_ok.ensures c.if-not-value_ok.false, good c.value_ok-2.ensures c.if-not-value_ok-2.false, c.requires)

pub returns : goal.returns
unfolding order_in both
returns c = simp (← c.order_of.ensures, kinds_one _ _ c.ne.ensures c.if-ne.false, ← c.kind-2.ensures, ← c.kind.ensures, good c.value_ok-2.ensures c.if-not-value_ok-2.false, good c.value_ok.ensures c.if-not-value_ok.false)
