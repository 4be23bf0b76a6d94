use native.Mathlib.Omega.{arith}
use mathlib.Core.Path.{◌∙◌}
use Rattle.value.specs.Clocks.{ticks_in}
use Rattle.value.proofs.ClockLaws.{ticks_to}
use Rattle.operation_quantities.proofs.Spanned.{part_of, seconds_of, spans_sum}
use Rattle.operation_shifting.proofs.Halves.{plus_to}
use Rattle.operation_arithmetic.proofs.sums.plus_halves.Goals as goal

pub plus-requires : goal.plus-requires
plus-requires c = (part_of _ _ c.plus_ticks.ensures, part_of _ _ c.plus_ticks-2.ensures, let h = plus_to c.args.a.negative (ticks_in c.args.a) in let k = plus_to c.args.b.negative (ticks_in c.args.b) in omega (arith, seconds_of _ _ c.plus_ticks.ensures, seconds_of _ _ c.plus_ticks-2.ensures, ticks_to _ c.requires.0, ticks_to _ c.requires.1))

pub returns : goal.returns
returns c = c.plus.ensures ∙ spans_sum _ _ _ _ c.plus_ticks.ensures c.plus_ticks-2.ensures
