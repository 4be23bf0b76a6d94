use Rattle.value_instants.specs.Ticks.{east}
use Rattle.value_instants.proofs.TwoParts.{span_east, span_west}
use Rattle.value_instants.proofs.Within.{east_to}
use native.Mathlib.Omega.{arith}
use mathlib.Core.Path.{ap}
use Rattle.value_instants.proofs.ticks.instant_at.Goals as goal

pub overflow_sub-result : goal.overflow_sub-result
overflow_sub-result c = let h = east_to _ c.requires.3 in omega (arith, ap east c.in-East.is)

pub returns-in-East : goal.returns-in-East
returns-in-East c = span_east _ _ _ _ c.requires.0 (let h = east_to _ c.requires.3 in omega (arith, ap east c.in-East.is)) c.in-East.is

pub returns-in-West : goal.returns-in-West
returns-in-West c = span_west _ _ _ _ c.requires.0 c.in-West.is
