use Prim.Native.Nat.{◌+◌}
use Rattle.operation_arithmetic.specs.Sums.{sum_of}
use Rattle.operation_quantities.specs.Results.{in_months}
use native.Mathlib.Omega.{arith}
use mathlib.Core.Path.{◌∙◌}
use Rattle.operation_shifting.proofs.Halves.{plus_to, minus_to}
use Rattle.operation_arithmetic.proofs.sums.months_sum.Goals as goal

pub overflow_add-p : goal.overflow_add-p
overflow_add-p c = let h = plus_to c.args.a.negative c.args.a.months in let k = plus_to c.args.b.negative c.args.b.months in omega (arith, c.plus_half-p.ensures, c.plus_half-r.ensures)

pub overflow_add-q : goal.overflow_add-q
overflow_add-q c = let h = minus_to c.args.a.negative c.args.a.months in let k = minus_to c.args.b.negative c.args.b.months in omega (arith, c.minus_half-q.ensures, c.minus_half-s.ensures)

pub returns : goal.returns
unfolding sum_of
returns c = c.in_months.ensures ∙ (λ i. in_months (c.plus_half-p.ensures i + c.plus_half-r.ensures i) (c.minus_half-q.ensures i + c.minus_half-s.ensures i))
