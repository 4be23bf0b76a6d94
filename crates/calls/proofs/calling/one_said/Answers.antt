use mathlib.Core.Path.{ap, sym, ◌∙◌}
use Rattle.value.specs.Carried.{valid}
use Rattle.operation.proofs.Validity.{unzone_valid}
use Rattle.text.specs.Writing.{text_of}
use Rattle.calls_replies.specs.ReplyParts.{parts_text}
use Rattle.calls_asked.specs.declared.One.{One}
use Rattle.calls.specs.Answers.{one_text}
use Rattle.calls.proofs.Saying.{renamed}
use Rattle.calls.proofs.calling.one_said.Goals as goal

pub value_said-requires : goal.value_said-requires
value_said-requires c = ap valid c.unzone.ensures ∙ unzone_valid _

pub returns-in-Read : goal.returns-in-Read
unfolding one_text
returns-in-Read c = c.written.ensures ∙ ap (λ (x : One). one_text x c.args.a) (sym c.in-Read.is)

pub returns-in-Unzone : goal.returns-in-Unzone
unfolding one_text
returns-in-Unzone c = renamed text_of c.unzone.ensures c.value_said.ensures ∙ ap (λ (x : One). one_text x c.args.a) (sym c.in-Unzone.is)

pub returns-in-Components : goal.returns-in-Components
unfolding one_text
returns-in-Components c = renamed parts_text c.of_value.ensures c.components_said.ensures ∙ ap (λ (x : One). one_text x c.args.a) (sym c.in-Components.is)
