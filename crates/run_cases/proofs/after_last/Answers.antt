use mathlib.Core.Path.{ap, sym, ◌∙◌}
use Rattle.std.proofs.lemmas.Result.{err_from_is_err_and}
use Rattle.basis.specs.Answer.{gives}
use Rattle.run_cases.specs.Carried.{step_meaning, after_last}
use Rattle.run_cases.specs.declared.RunSpans.{RunSpans}
use Rattle.basis.proofs.Answers.{then_refused, then_given}
use Rattle.run_cases.proofs.after_last.Goals as goal

pub returns-in_err-step : goal.returns-in_err-step
unfolding after_last
returns-in_err-step c = let p = err_from_is_err_and c.from_residual.result c.from_residual.ensures.1 in rw (p.1, p.2) (then_refused _ _ _ (ap step_meaning (sym c.in_err-step.was) ∙ c.step_read.ensures))

pub returns : goal.returns
unfolding after_last
returns c =
    ap (λ (x : RunSpans). gives x) c.run_from.ensures
    ∙ then_given _ _ _ (ap step_meaning (sym c.in_ok-step.was) ∙ c.step_read.ensures)
