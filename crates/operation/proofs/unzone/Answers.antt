use Rattle.basis.proofs.Tests.{no, yes as good}
use Rattle.operation_adjusting.specs.Adjustment.{unzone_of}
use Rattle.operation.proofs.unzone.Goals as goal

pub returns-then-not-value_ok : goal.returns-then-not-value_ok
unfolding unzone_of
returns-then-not-value_ok c = simp (← c.refused.ensures, no c.value_ok.ensures c.if-not-value_ok.true)

pub returns : goal.returns
unfolding unzone_of
returns c = simp (← c.without_zone.ensures, good c.value_ok.ensures c.if-not-value_ok.false)
