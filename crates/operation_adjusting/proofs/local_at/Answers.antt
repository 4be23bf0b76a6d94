use Rattle.value_instants.specs.Ticks.{west}
use Rattle.value_instants.proofs.Within.{west_to}
use native.Mathlib.Omega.{arith}
use mathlib.Core.Path.{ap}
use Rattle.operation_adjusting.proofs.Zones.{local_east, local_west}
use Rattle.operation_adjusting.proofs.local_at.Goals as goal

pub overflow_sub-result : goal.overflow_sub-result
overflow_sub-result c = let h = west_to _ c.requires.3 in omega (arith, ap west c.in-West.is)

pub returns-in-East : goal.returns-in-East
returns-in-East c = local_east _ _ _ _ c.requires.0 c.in-East.is

pub returns-in-West : goal.returns-in-West
returns-in-West c = local_west _ _ _ _ c.requires.0 (let h = west_to _ c.requires.3 in omega (arith, ap west c.in-West.is)) c.in-West.is
