use Rattle.operation_adjusting.proofs.Zones.{part_no_zone, seconds_no_zone, minutes_zone}
use Rattle.operation_adjusting.proofs.is_zone.Goals as goal

pub returns-then-size-ne0 : goal.returns-then-size-ne0
returns-then-size-ne0 c = part_no_zone _ _ c.size-size.ensures c.if-size-ne0.true

pub returns-then-size-ne0-2 : goal.returns-then-size-ne0-2
returns-then-size-ne0-2 c = seconds_no_zone _ _ c.size-size.ensures c.if-size-ne0-2.true

pub returns : goal.returns
returns c = minutes_zone _ _ c.size-size.ensures c.if-size-ne0.false c.if-size-ne0-2.false
