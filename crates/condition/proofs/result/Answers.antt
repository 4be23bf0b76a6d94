use mathlib.Core.Path.{refl}
use Rattle.std.proofs.lemmas.Result.{err_from_is_err_and}
use Rattle.condition.proofs.Ways.{result_refused, result_judged}
use Rattle.condition.proofs.result.Goals as goal

pub returns-in_err-check : goal.returns-in_err-check
returns-in_err-check c = let p = err_from_is_err_and c.from_residual.result c.from_residual.ensures.1 in rw (p.1, p.2) (result_refused _ _ _ c.check.ensures _ c.in_err-check.was)

pub returns : goal.returns
returns c = result_judged _ _ _ c.check.ensures _ _ _ c.in_ok-check.was c.utc.ensures refl c.judge.ensures
