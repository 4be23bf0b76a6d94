use mathlib.Core.Path.{ap, ◌∙◌}
use Rattle.std.proofs.lemmas.Result.{err_from_is_err_and}
use native.Mathlib.Omega.{arith}
use Rattle.basis.specs.Answer.{gives}
use Rattle.value.specs.declared.Span.{Span}
use Rattle.run_cases.proofs.Fields.{own_field, field_valid, step_refused, step_is}
use Rattle.run_cases.proofs.step_read.Goals as goal

pub forward-requires : goal.forward-requires
forward-requires c = field_valid _ _ _ _ (own_field _ _ _ _ _ _ (omega arith) c.read.ensures c.in_ok-v.was)

pub returns-in_err-v : goal.returns-in_err-v
returns-in_err-v c = let p = err_from_is_err_and c.from_residual.result c.from_residual.ensures.1 in rw (p.1, p.2) (step_refused _ _ (own_field _ _ _ _ _ _ (omega arith) c.read.ensures c.in_err-v.was))

pub returns : goal.returns
returns c =
    ap (λ (s : Span). gives s) c.forward.ensures
    ∙ step_is _ _ (own_field _ _ _ _ _ _ (omega arith) c.read.ensures c.in_ok-v.was)
