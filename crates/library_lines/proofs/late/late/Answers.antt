use mathlib.Core.Path.{ap, sym, ◌∙◌}
use Rattle.std.proofs.lemmas.Result.{err_from_is_err_and}
use Rattle.value.specs.Kinds.{meaning}
use Rattle.library_lines.specs.Late.{delayed, late_of}
use Rattle.library_lines.proofs.late.late.Goals as goal

pub returns : goal.returns
unfolding late_of
returns c = c.beyond.ensures ∙ ap (delayed c.args.allowed) (ap meaning (sym c.in_ok-minus.was) ∙ c.minus.ensures)

pub returns-in_err-minus : goal.returns-in_err-minus
unfolding late_of
returns-in_err-minus c = let p = err_from_is_err_and c.from_residual.result c.from_residual.ensures.1 in rw (p.1, p.2) (ap (delayed c.args.allowed) (ap meaning (sym c.in_err-minus.was) ∙ c.minus.ensures))
