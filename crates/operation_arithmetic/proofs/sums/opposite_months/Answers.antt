use mathlib.Core.Path.{sym}
use Rattle.operation_arithmetic.proofs.Opposites.{opposite_size}
use Rattle.operation_arithmetic.proofs.sums.opposite_months.Goals as goal

pub returns : goal.returns
returns c = λ i. record { negative = c.opposite_sign.ensures i; months = sym (opposite_size c.args.m.negative c.args.m.months) i }
