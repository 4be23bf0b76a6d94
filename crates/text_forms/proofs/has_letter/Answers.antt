use mathlib.Core.Path.{◌∙◌}
use Rattle.text_forms.proofs.Looking.{has_any}
use Rattle.text_forms.proofs.has_letter.Goals as goal

pub returns : goal.returns
returns c = c.contains.ensures.value ∙ has_any c.args.letters.now c.args.p
