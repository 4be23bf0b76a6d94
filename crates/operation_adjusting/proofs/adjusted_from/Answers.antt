use Rattle.operation_adjusting.proofs.Zones.{instant_room, instant_span, local_span, adjusted_none, adjusted_own, own_zone}
use Rattle.value_instants.proofs.Within.{timed}
use native.Mathlib.Omega.{arith}
use mathlib.Core.Path.{◌∙◌}
use Rattle.operation_shifting.proofs.Reach.{local_from}
use Rattle.operation_quantities.proofs.Spanned.{part_of, seconds_of, span_at_ticks}
use Rattle.operation_adjusting.proofs.adjusted_from.Goals as goal

pub instant_at-i-requires : goal.instant_at-i-requires
instant_at-i-requires c = (part_of _ _ c.local.ensures, omega (arith, seconds_of _ _ c.local.ensures, local_from _ c.requires.0), omega (arith, seconds_of _ _ c.local.ensures, (timed _ c.requires.0).local_few), (own_zone _ _ c.requires.0 c.in-Some.is))

pub local_at-requires : goal.local_at-requires
local_at-requires c = let r = instant_room _ _ _ _ c.requires.0 (own_zone _ _ c.requires.0 c.in-Some.is) c.local.ensures c.instant_at-i.ensures in (r.0, r.1, r.2, c.requires.1)

pub at_ticks-requires : goal.at_ticks-requires
at_ticks-requires c = part_of _ _ c.local_at.ensures

pub returns-in-None : goal.returns-in-None
returns-in-None c = adjusted_none _ _ _ _ _ c.in-None.is c.with_zone.ensures

pub returns-in-Some : goal.returns-in-Some
returns-in-Some c = c.at_ticks.ensures ∙ span_at_ticks _ _ _ _ (local_span _ _ _ c.args.z (instant_span _ _ _ c.in-Some.w c.local.ensures c.instant_at-i.ensures) c.local_at.ensures) ∙ adjusted_own _ _ _ _ _ c.in-Some.is
