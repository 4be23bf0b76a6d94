use native.Mathlib.Omega.{arith}
use Rattle.operation_adjusting.proofs.Zones.{zone_minutes_lem, minutes_of}
use Rattle.operation_adjusting.proofs.zone_of.Goals as goal

pub overflow_cast-m : goal.overflow_cast-m
overflow_cast-m c = omega (arith, zone_minutes_lem _ c.requires.1, minutes_of _ _ c.size-size.ensures)

pub returns-then-z : goal.returns-then-z
returns-then-z c = simp (c.if-z.true, minutes_of _ _ c.size-size.ensures)

pub returns : goal.returns
returns c = simp (c.if-z.false, minutes_of _ _ c.size-size.ensures)
