use mathlib.Core.Path.{ap, sym, ◌∙◌}
use Rattle.std.proofs.lemmas.Result.{err_from_is_err_and}
use Rattle.run_cases.specs.Carried.{time_meaning, after_first}
use Rattle.basis.proofs.Answers.{then_refused, then_given}
use Rattle.run_cases.proofs.after_first.Goals as goal

pub returns-in_err-last : goal.returns-in_err-last
unfolding after_first
returns-in_err-last c = let p = err_from_is_err_and c.from_residual.result c.from_residual.ensures.1 in rw (p.1, p.2) (then_refused _ _ _ (ap time_meaning (sym c.in_err-last.was) ∙ c.time_read.ensures))

pub returns : goal.returns
unfolding after_first
returns c =
    c.after_last.ensures
    ∙ then_given _ _ _ (ap time_meaning (sym c.in_ok-last.was) ∙ c.time_read.ensures)
