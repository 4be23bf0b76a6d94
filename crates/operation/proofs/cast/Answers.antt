use Rattle.basis.proofs.Tests.{no, yes as good}
use Rattle.operation_casting.specs.Casts.{cast_of}
use Rattle.operation.proofs.cast.Goals as goal

pub returns-then-not-value_ok : goal.returns-then-not-value_ok
unfolding cast_of
returns-then-not-value_ok c = simp (← c.refused.ensures, no c.value_ok.ensures c.if-not-value_ok.true)

pub returns-then-not-casts_to : goal.returns-then-not-casts_to
unfolding cast_of
returns-then-not-casts_to c = simp (← c.refused-then-not-casts_to.ensures, no c.casts_to.ensures c.if-not-casts_to.true, ← c.kind.ensures, good c.value_ok.ensures c.if-not-value_ok.false)

pub returns : goal.returns
unfolding cast_of
returns c = simp (← c.cast_to.ensures, good c.casts_to.ensures c.if-not-casts_to.false, ← c.kind.ensures, good c.value_ok.ensures c.if-not-value_ok.false)
