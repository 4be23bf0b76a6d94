use mathlib.Core.Path.{◌∙◌}
use Rattle.condition_words.proofs.Sameness.{by_parts}
use Rattle.condition_words.proofs.same.Goals as goal

pub returns : goal.returns
returns c = c.eq.ensures ∙ by_parts _ _
