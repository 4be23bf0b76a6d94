use mathlib.Core.Path.{◌∙◌}
use Rattle.value.proofs.ClockLaws.{lasting_span}
use Rattle.value.proofs.clocks.lasting.Goals as goal

pub returns : goal.returns
returns c = c.with_size.ensures ∙ lasting_span _ _ _ c.requires
