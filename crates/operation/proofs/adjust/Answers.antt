use Rattle.basis.proofs.Tests.{no, yes as good}
use Rattle.operation_adjusting.specs.Adjustment.{adjust_of}
use Rattle.basis.specs.Choice.{both}
use Rattle.operation.proofs.adjust.Goals as goal

pub returns-then-not-value_ok : goal.returns-then-not-value_ok
unfolding adjust_of both
returns-then-not-value_ok c = simp (← c.refused.ensures, no c.value_ok.ensures c.if-not-value_ok.true)

pub returns-then-not-value_ok-2 : goal.returns-then-not-value_ok-2
unfolding adjust_of both
returns-then-not-value_ok-2 c = simp (← c.refused-then-not-value_ok-2.ensures, no c.value_ok-2.ensures c.if-not-value_ok-2.true, good c.value_ok.ensures c.if-not-value_ok.false)

pub value_to-requires : goal.value_to-requires
value_to-requires c = (good c.value_ok.ensures c.if-not-value_ok.false, good c.value_ok-2.ensures c.if-not-value_ok-2.false)

pub returns : goal.returns
unfolding adjust_of both
returns c = simp (← c.value_to.ensures, good c.value_ok-2.ensures c.if-not-value_ok-2.false, good c.value_ok.ensures c.if-not-value_ok.false)
