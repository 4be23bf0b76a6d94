use native.Mathlib.Omega.{arith}
use mathlib.Core.Path.{◌∙◌}
use Rattle.value.specs.Clocks.{ticks_in}
use Rattle.value.proofs.ClockLaws.{ticks_to}
use Rattle.operation_quantities.specs.Results.{in_ticks}
use Rattle.operation_quantities.proofs.Spanned.{part_of, spans_in_ticks}
use Rattle.operation_shifting.proofs.Halves.{plus_to, minus_to}
use Rattle.operation_arithmetic.specs.Products.{product_of}
use Rattle.operation_arithmetic.proofs.Opposites.{times_minus, times_plus, times_room, times_ticks}
use Rattle.operation_arithmetic.proofs.products.day_time_times.Goals as goal

pub times-p-requires : goal.times-p-requires
times-p-requires c = times_room _ _ _ c.plus_ticks.ensures (let h = plus_to c.args.t.negative (ticks_in c.args.t) in omega (arith, ticks_to _ c.requires.0)) c.requires.1

pub times-q-requires : goal.times-q-requires
times-q-requires c = times_room _ _ _ c.minus_ticks.ensures (let h = minus_to c.args.t.negative (ticks_in c.args.t) in omega (arith, ticks_to _ c.requires.0)) c.requires.1

pub in_ticks-requires : goal.in_ticks-requires
in_ticks-requires c = (part_of _ _ c.times-q.ensures, part_of _ _ c.times-p.ensures)

pub returns-then-negative : goal.returns-then-negative
unfolding product_of
returns-then-negative c = c.in_ticks.ensures ∙ spans_in_ticks _ _ _ _ (times_ticks _ _ _ c.minus_ticks.ensures _ c.times-q.ensures) (times_ticks _ _ _ c.plus_ticks.ensures _ c.times-p.ensures) ∙ times_minus in_ticks _ _ _ _ c.if-negative.true

pub in_ticks-requires-2 : goal.in_ticks-requires-2
in_ticks-requires-2 c = (part_of _ _ c.times-p.ensures, part_of _ _ c.times-q.ensures)

pub returns : goal.returns
unfolding product_of
returns c = c.in_ticks-2.ensures ∙ spans_in_ticks _ _ _ _ (times_ticks _ _ _ c.plus_ticks.ensures _ c.times-p.ensures) (times_ticks _ _ _ c.minus_ticks.ensures _ c.times-q.ensures) ∙ times_plus in_ticks _ _ _ _ c.if-negative.false
