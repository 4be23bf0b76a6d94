use Rattle.value.specs.Values.{ok_offset}
use mathlib.Core.Path.{ap, ◌∙◌}
use Rattle.operation_adjusting.proofs.Zones.{zone_ok}
use Rattle.basis.proofs.Tests.{no, yes as good}
use Rattle.operation_adjusting.proofs.adjusted_to.Goals as goal

pub returns-then-not-is_zone : goal.returns-then-not-is_zone
returns-then-not-is_zone c = simp (← c.refused.ensures, no c.is_zone.ensures c.if-not-is_zone.true)

pub zone_of-requires : goal.zone_of-requires
zone_of-requires c = (c.requires.1, good c.is_zone.ensures c.if-not-is_zone.false)

pub adjusted_from-requires : goal.adjusted_from-requires
adjusted_from-requires c = (c.requires.0, ap ok_offset c.zone_of.ensures ∙ zone_ok _ c.requires.1 (good c.is_zone.ensures c.if-not-is_zone.false))

pub returns : goal.returns
returns c = simp (← c.adjusted_from.ensures, ← c.zone_of.ensures, good c.is_zone.ensures c.if-not-is_zone.false)
