use native.Mathlib.Omega.{arith}
use Rattle.value.proofs.ClockLaws.{clock_to}
use Rattle.value.proofs.Good.{good}
use Rattle.operation_quantities.proofs.Spanned.{part_of, seconds_of}
use Rattle.operation_shifting.proofs.Halves.{rest_to, taken_spans, added_spans}
use Rattle.operation_shifting.proofs.shifts.wrapped_clock.Goals as goal

pub clock-clock-requires : goal.clock-clock-requires
clock-clock-requires c = (good _ c.requires.0).time

pub round_day-rest-requires : goal.round_day-rest-requires
round_day-rest-requires c = part_of _ _ c.size.ensures

pub minus-requires : goal.minus-requires
minus-requires c = (omega arith, part_of _ _ c.round_day-rest.ensures, rest_to _ _ _ _ _ c.args.t.negative c.clock-clock.ensures c.size.ensures c.round_day-rest.ensures)

pub plus-requires : goal.plus-requires
plus-requires c = (part_of _ _ c.clock-clock.ensures, part_of _ _ c.minus.ensures, omega (arith, seconds_of _ _ c.clock-clock.ensures, seconds_of _ _ c.minus.ensures, clock_to _ (good _ c.requires.0).time))

pub round_day-requires : goal.round_day-requires
round_day-requires c = part_of _ _ c.plus.ensures

pub returns-then-t : goal.returns-then-t
returns-then-t c = taken_spans _ _ _ _ _ _ c.clock-clock.ensures c.size.ensures c.round_day-rest.ensures _ _ _ c.if-t.true c.minus.ensures c.plus.ensures c.round_day.ensures

pub plus-requires-2 : goal.plus-requires-2
plus-requires-2 c = (part_of _ _ c.clock-clock.ensures, part_of _ _ c.round_day-rest.ensures, omega (arith, seconds_of _ _ c.clock-clock.ensures, seconds_of _ _ c.round_day-rest.ensures, clock_to _ (good _ c.requires.0).time))

pub round_day-requires-2 : goal.round_day-requires-2
round_day-requires-2 c = part_of _ _ c.plus-2.ensures

pub returns : goal.returns
returns c = added_spans _ _ _ _ _ _ c.clock-clock.ensures c.size.ensures c.round_day-rest.ensures _ _ c.if-t.false c.plus-2.ensures c.round_day-2.ensures
