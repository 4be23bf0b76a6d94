use Prim.Native.Nat.{◌*◌, ◌≤◌}
use Rattle.operation_arithmetic.specs.Products.{product_of}
use Rattle.operation_quantities.specs.Results.{in_months}
use native.Mathlib.Nat.{mul-le-mul_right}
use native.Mathlib.Omega.{arith}
use mathlib.Core.Path.{◌∙◌}
use Rattle.operation_shifting.proofs.Halves.{plus_to, minus_to}
use Rattle.operation_arithmetic.proofs.Opposites.{times_minus, times_plus}
use Rattle.operation_arithmetic.proofs.products.year_month_times.Goals as goal

pub overflow_mul-p : goal.overflow_mul-p
overflow_mul-p c = let h = plus_to c.args.m.negative c.args.m.months in let s : c.plus_half.result ≤ 4294967295 = omega (arith, c.plus_half.ensures) in let k = mul-le-mul_right c.args.n s in omega (arith, c.requires)

pub overflow_mul-q : goal.overflow_mul-q
overflow_mul-q c = let h = minus_to c.args.m.negative c.args.m.months in let s : c.minus_half.result ≤ 4294967295 = omega (arith, c.minus_half.ensures) in let k = mul-le-mul_right c.args.n s in omega (arith, c.requires)

pub returns-then-negative : goal.returns-then-negative
unfolding product_of
returns-then-negative c = c.in_months.ensures ∙ (λ i. in_months (c.minus_half.ensures i * c.args.n) (c.plus_half.ensures i * c.args.n)) ∙ times_minus in_months _ _ _ _ c.if-negative.true

pub returns : goal.returns
unfolding product_of
returns c = c.in_months-2.ensures ∙ (λ i. in_months (c.plus_half.ensures i * c.args.n) (c.minus_half.ensures i * c.args.n)) ∙ times_plus in_months _ _ _ _ c.if-negative.false
