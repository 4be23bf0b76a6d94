use Rattle.operation_arithmetic.proofs.Opposites.{opposite_plus, opposite_minus}
use Rattle.operation_arithmetic.proofs.sums.opposite_sign.Goals as goal

pub returns-then-negative : goal.returns-then-negative
returns-then-negative c = opposite_plus _ _ c.if-negative.true

pub returns-else-negative : goal.returns-else-negative
returns-else-negative c = opposite_minus _ _ c.if-negative.false
