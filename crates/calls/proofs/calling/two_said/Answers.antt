use mathlib.Core.Path.{ap, sym, ◌∙◌}
use Rattle.value.specs.Carried.{valid}
use Rattle.operation_arithmetic.proofs.Validity.{plus_valid, minus_valid}
use Rattle.operation.proofs.Validity.{adjust_valid}
use Rattle.text.specs.Writing.{text_of}
use Rattle.calls_asked.specs.declared.Two.{Two}
use Rattle.calls.specs.Answers.{order_text, two_text}
use Rattle.calls.proofs.Saying.{renamed}
use Rattle.calls.proofs.calling.two_said.Goals as goal

pub value_said-requires : goal.value_said-requires
value_said-requires c = ap valid c.plus.ensures ∙ plus_valid _ _

pub value_said-requires-in-Subtract : goal.value_said-requires-in-Subtract
value_said-requires-in-Subtract c = ap valid c.minus.ensures ∙ minus_valid _ _ _

pub value_said-requires-in-Adjust : goal.value_said-requires-in-Adjust
value_said-requires-in-Adjust c = ap valid c.adjust.ensures ∙ adjust_valid _ _

pub returns-in-Compare : goal.returns-in-Compare
unfolding two_text
returns-in-Compare c = renamed order_text c.compare.ensures c.order_said.ensures ∙ ap (λ (x : Two). two_text x c.args.a c.args.b) (sym c.in-Compare.is)

pub returns-in-Add : goal.returns-in-Add
unfolding two_text
returns-in-Add c = renamed text_of c.plus.ensures c.value_said.ensures ∙ ap (λ (x : Two). two_text x c.args.a c.args.b) (sym c.in-Add.is)

pub returns-in-Subtract : goal.returns-in-Subtract
unfolding two_text
returns-in-Subtract c = renamed text_of c.minus.ensures c.value_said-in-Subtract.ensures ∙ ap (λ (x : Two). two_text x c.args.a c.args.b) (sym c.in-Subtract.is)

pub returns-in-Adjust : goal.returns-in-Adjust
unfolding two_text
returns-in-Adjust c = renamed text_of c.adjust.ensures c.value_said-in-Adjust.ensures ∙ ap (λ (x : Two). two_text x c.args.a c.args.b) (sym c.in-Adjust.is)
