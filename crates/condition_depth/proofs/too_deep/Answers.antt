use native.Mathlib.Omega.{arith}
use Rattle.condition_depth.proofs.Depths.{at_end}
use Rattle.condition_depth.proofs.too_deep.Goals as goal

pub returns : goal.returns
returns c = grind (arith, at_end)
