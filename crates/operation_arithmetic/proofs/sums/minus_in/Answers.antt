use Rattle.basis.proofs.Tests.{no, yes as good}
use Rattle.operation_arithmetic.specs.Sums.{minus_in}
use Rattle.basis.specs.Choice.{both}
use Rattle.operation_arithmetic.proofs.sums.minus_in.Goals as goal

pub returns-then-not-value_ok : goal.returns-then-not-value_ok
unfolding minus_in both
returns-then-not-value_ok c = simp (← c.refused.ensures, no c.value_ok.ensures c.if-not-value_ok.true)

pub returns-then-not-value_ok-2 : goal.returns-then-not-value_ok-2
unfolding minus_in both
returns-then-not-value_ok-2 c = simp (← c.refused-then-not-value_ok-2.ensures, no c.value_ok-2.ensures c.if-not-value_ok-2.true, good c.value_ok.ensures c.if-not-value_ok.false)

pub difference-requires : goal.difference-requires
difference-requires c = (good c.value_ok.ensures c.if-not-value_ok.false, good c.value_ok-2.ensures c.if-not-value_ok-2.false, c.requires)

pub returns : goal.returns
unfolding minus_in both
returns c = simp (← c.difference.ensures, good c.value_ok-2.ensures c.if-not-value_ok-2.false, good c.value_ok.ensures c.if-not-value_ok.false)
