use Rattle.value_instants.proofs.TwoParts.{part_product, product_by_parts}
use native.Mathlib.Omega.{arith}
use Rattle.value_instants.proofs.spans.times.Goals as goal

pub overflow_mul-p : goal.overflow_mul-p
overflow_mul-p c = omega (arith, part_product c.args.a.part c.args.n (omega arith))

pub overflow_add-result : goal.overflow_add-result
overflow_add-result c = omega (arith, part_product c.args.a.part c.args.n (omega arith))

pub returns : goal.returns
returns c = product_by_parts _ _ _
