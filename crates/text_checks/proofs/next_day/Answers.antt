use mathlib.Core.Path.{ap, ◌∙◌}
use native.Mathlib.Omega.{arith}
use Rattle.basis.specs.Answer.{gives}
use Rattle.value.specs.declared.DateTime.{DateTime}
use Rattle.value.specs.declared.Value.TheVariants as VV
use Rattle.text_checks.proofs.Ways.{next_on, next_beyond, same_day, a_date, few_days}
use Rattle.text_checks.proofs.next_day.Goals as goal

pub day_number-n-requires : goal.day_number-n-requires
day_number-n-requires c = a_date c.args.d c.requires

pub overflow_add-n : goal.overflow_add-n
overflow_add-n c = omega (arith, c.day_number-n.ensures, few_days c.args.d c.requires)

pub returns-in-Some : goal.returns-in-Some
returns-in-Some c = c.moment.ensures ∙ ap (λ (x : DateTime). gives (VV.Moment c.args.kind x)) c.at.ensures ∙ next_on c.args.kind c.args.d c.args.zone c.parts-own.ensures c.if-own.true c.day_number-n.ensures c.date_of.ensures _ c.in-Some.is

pub returns-in-None : goal.returns-in-None
returns-in-None c = c.refused.ensures ∙ next_beyond c.args.kind c.args.d c.args.zone c.parts-own.ensures c.if-own.true c.day_number-n.ensures c.date_of.ensures c.in-None.is

pub returns : goal.returns
returns c = c.moment-2.ensures ∙ ap (λ (x : DateTime). gives (VV.Moment c.args.kind x)) c.at-2.ensures ∙ same_day c.args.kind c.args.d c.args.zone c.parts-own.ensures c.if-own.false
