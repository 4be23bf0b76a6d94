use mathlib.Core.Path.{sym, ap, ◌∙◌}
use Rattle.desk.specs.Answers.{After}
use Rattle.output_pieces.proofs.Starting.{start_desk}
use Rattle.output_pieces.proofs.begin.Goals as goal

pub returns : goal.returns
returns c = (ap (λ (x : After (Unit {0})). x.desk) c.fresh.ensures ∙ sym (start_desk _ _), c.choice.ensures)
