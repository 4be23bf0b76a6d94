use Rattle.value_components.proofs.SignedNumbers.{fits_minus, read_minus, signed_minus, signed_plus}
use Rattle.value_components.proofs.signed.Goals as goal

pub overflow_sub-result : goal.overflow_sub-result
overflow_sub-result c = rw (read_minus c.args.n c.requires) (fits_minus c.args.n c.requires)

pub returns-then-negative : goal.returns-then-negative
returns-then-negative c = signed_minus c.args.n c.args.negative c.requires c.if-negative.true

pub returns-else-negative : goal.returns-else-negative
returns-else-negative c = signed_plus c.args.n c.args.negative c.requires c.if-negative.false
