use mathlib.Core.Path.{ap, ◌∙◌}
use Rattle.text.specs.Reading.{read_as}
use Rattle.timetable.specs.Fields.{field_at}
use Rattle.value.specs.declared.Value.{Value}
use Rattle.text.specs.Writing.{text_of}
use Rattle.value.specs.Carried.{valid}
use Rattle.operation_arithmetic.specs.Products.{times_of}
use Rattle.operation_arithmetic.proofs.Validity.{times_valid}
use Rattle.calls_asked.specs.Asked.{has_minus, whole_magnitude}
use Rattle.calls.specs.Answers.{said, answer_by}
use Rattle.calls_asked.proofs.Wholes.{times_said}
use Rattle.calls.proofs.Saying.{was_read, was_refused, renamed}
use Rattle.calls.proofs.product_call.Goals as goal

pub value_said-requires : goal.value_said-requires
value_said-requires c = ap valid c.times.ensures ∙ times_valid _ _ _

pub returns-in-Err : goal.returns-in-Err
unfolding answer_by
returns-in-Err c = was_refused (λ (a : Value). said text_of (times_of a (has_minus (field_at c.args.line.now 4)) (whole_magnitude (field_at c.args.line.now 4)))) (c.read.ensures ∙ ap (read_as c.args.k) c.field.ensures) c.in-Err.is c.refused.ensures

pub returns-in-Ok : goal.returns-in-Ok
unfolding answer_by
returns-in-Ok c = was_read (λ (a : Value). said text_of (times_of a (has_minus (field_at c.args.line.now 4)) (whole_magnitude (field_at c.args.line.now 4)))) (c.read.ensures ∙ ap (read_as c.args.k) c.field.ensures) c.in-Ok.is (renamed text_of (c.times.ensures ∙ times_said _ c.args.line.now c.whole-n.ensures.1 c.whole-n.ensures.2 c.field-in-Ok.ensures) c.value_said.ensures)
