use borrow.Author.Tests.{le-leb, lt-leb}
use Rattle.basis.proofs.Tests.{no, yes as good}
use Rattle.operation_arithmetic.specs.Products.{times_of}
use Rattle.basis.specs.Choice.{both}
use Rattle.operation.proofs.times.Goals as goal

pub returns-then-not-value_ok : goal.returns-then-not-value_ok
unfolding times_of both
returns-then-not-value_ok c = simp (← c.refused.ensures, no c.value_ok.ensures c.if-not-value_ok.true)

pub returns-then-n-gt-MAX_FACTOR : goal.returns-then-n-gt-MAX_FACTOR
unfolding times_of both
returns-then-n-gt-MAX_FACTOR c = simp (lt-leb, ← c.refused-then-n-gt-MAX_FACTOR.ensures, c.if-n-gt-MAX_FACTOR.true, good c.value_ok.ensures c.if-not-value_ok.false)

pub product-requires : goal.product-requires
product-requires c = (good c.value_ok.ensures c.if-not-value_ok.false, c.if-n-gt-MAX_FACTOR.false)

pub returns : goal.returns
unfolding times_of both
returns c = simp (le-leb, ← c.product.ensures, c.if-n-gt-MAX_FACTOR.false, good c.value_ok.ensures c.if-not-value_ok.false)
