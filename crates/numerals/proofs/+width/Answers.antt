use mathlib.Core.Path.{ap}
use native.Mathlib.Omega.{arith}
use lib.ListN.{length}
use Rattle.numerals.proofs.Decimals.{decimal_one, decimal_longer, decimal_le}
use Rattle.numerals.proofs.+width.Goals as goal

pub overflow_add-result : goal.overflow_add-result
overflow_add-result t c =
    let n = c.args.n in
    omega (arith, decimal_longer n c.if-n-lt10.false, decimal_le 20 n (omega arith) (omega arith))

pub returns-then-n-lt10 : goal.returns-then-n-lt10
returns-then-n-lt10 t c = omega (arith, ap length (decimal_one c.args.n c.if-n-lt10.true))

pub returns-else-n-lt10 : goal.returns-else-n-lt10
returns-else-n-lt10 t c = omega (arith, decimal_longer c.args.n c.if-n-lt10.false)
