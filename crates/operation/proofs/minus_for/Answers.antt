use Rattle.basis.proofs.Tests.{no, yes as good}
use Rattle.operation_arithmetic.specs.Sums.{minus_for}
use Rattle.operation.proofs.minus_for.Goals as goal

pub returns-then-not-offset_ok : goal.returns-then-not-offset_ok
unfolding minus_for
returns-then-not-offset_ok c = simp (← c.refused.ensures, no c.offset_ok.ensures c.if-not-offset_ok.true)

pub minus_in-requires : goal.minus_in-requires
minus_in-requires c = good c.offset_ok.ensures c.if-not-offset_ok.false

pub returns : goal.returns
unfolding minus_for
returns c = simp (← c.minus_in.ensures, good c.offset_ok.ensures c.if-not-offset_ok.false)
