use mathlib.Core.Path.{refl}
use Rattle.value.proofs.clocks.span.Goals as goal

pub returns : goal.returns
returns c = refl
