use mathlib.Core.Path.{◌∙◌}
use Rattle.value.proofs.ClockLaws.{at_span}
use Rattle.value.proofs.clocks.at.Goals as goal

pub returns : goal.returns
returns c = c.with_time.ensures ∙ at_span _ _ _ _ c.requires.0
