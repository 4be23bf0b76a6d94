use mathlib.Core.Path.{ap, ◌∙◌}
use Rattle.basis.specs.Answer.{Reason}
use Rattle.calls.specs.Answers.{refused_text}
use Rattle.calls.proofs.no_call.Goals as goal

pub returns : goal.returns
returns c = c.refused.ensures ∙ ap (λ (r : Reason). refused_text r.number) c.numbered.ensures
