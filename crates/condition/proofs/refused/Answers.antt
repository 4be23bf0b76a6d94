use mathlib.Core.Path.{ap}
use Rattle.basis.specs.Answer.{refuses_for}
use Rattle.condition.proofs.refused.Goals as goal

pub returns : goal.returns
returns c = ap refuses_for c.numbered.ensures
