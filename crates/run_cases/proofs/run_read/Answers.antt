use mathlib.Core.Path.{ap, sym, ◌∙◌}
use Rattle.std.proofs.lemmas.Result.{err_from_is_err_and}
use Rattle.run_cases.specs.Carried.{time_meaning}
use Rattle.basis.proofs.Answers.{then_refused, then_given}
use Rattle.run_cases.proofs.Fields.{in_turn}
use Rattle.run_cases.proofs.run_read.Goals as goal

pub returns-in_err-first : goal.returns-in_err-first
returns-in_err-first c = let p = err_from_is_err_and c.from_residual.result c.from_residual.ensures.1 in rw (p.1, p.2) (then_refused _ _ _ (ap time_meaning (sym c.in_err-first.was) ∙ c.time_read.ensures) ∙ in_turn _ _)

pub returns : goal.returns
returns c =
    c.after_first.ensures
    ∙ then_given _ _ _ (ap time_meaning (sym c.in_ok-first.was) ∙ c.time_read.ensures)
    ∙ in_turn _ _
