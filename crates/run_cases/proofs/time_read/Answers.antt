use mathlib.Core.Path.{ap, ◌∙◌}
use Rattle.std.proofs.lemmas.Result.{err_from_is_err_and}
use native.Mathlib.Omega.{arith}
use Rattle.basis.specs.Answer.{gives}
use Rattle.value.specs.Values.{ok_date_time}
use Rattle.value.specs.declared.DateTime.{DateTime}
use Rattle.text.proofs.RoundTrip.{moment_ok}
use Rattle.run_cases.specs.Carried.{timed_in}
use Rattle.run_cases.specs.declared.Timed.{Timed}
use Rattle.run_cases.proofs.Fields.{own_field, field_valid, time_refused, time_is}
use Rattle.run_cases.proofs.time_read.Goals as goal

pub times_of-requires : goal.times_of-requires
times_of-requires c =
    let f = own_field _ _ _ _ _ _ (omega arith) c.read.ensures c.in_ok-v.was in
    (ap ok_date_time c.moment.ensures ∙ moment_ok _ (field_valid _ _ _ _ f), c.requires)

pub returns-in_err-v : goal.returns-in_err-v
returns-in_err-v c = let p = err_from_is_err_and c.from_residual.result c.from_residual.ensures.1 in rw (p.1, p.2) (time_refused _ _ _ _ (own_field _ _ _ _ _ _ (omega arith) c.read.ensures c.in_err-v.was))

pub returns : goal.returns
returns c =
    let f = own_field _ _ _ _ _ _ (omega arith) c.read.ensures c.in_ok-v.was in
    ap (λ (t : Timed). gives t) c.times_of.ensures
    ∙ ap (λ (d : DateTime). gives (timed_in c.args.zone d)) c.moment.ensures
    ∙ time_is _ _ _ _ f
