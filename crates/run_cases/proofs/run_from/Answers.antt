use mathlib.Core.Path.{refl}
use Rattle.run_cases.proofs.run_from.Goals as goal

pub returns : goal.returns
returns c = refl
