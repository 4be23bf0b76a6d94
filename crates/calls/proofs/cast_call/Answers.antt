use mathlib.Core.Path.{ap, ◌∙◌}
use Rattle.text.specs.Reading.{read_as}
use Rattle.value.specs.declared.Value.{Value}
use Rattle.text.specs.Writing.{text_of}
use Rattle.value.specs.Carried.{valid}
use Rattle.operation_casting.specs.Casts.{cast_of}
use Rattle.operation.proofs.Validity.{cast_valid}
use Rattle.calls.specs.Answers.{said, answer_by}
use Rattle.calls.proofs.Saying.{was_read, was_refused, renamed}
use Rattle.calls.proofs.cast_call.Goals as goal

pub value_said-requires : goal.value_said-requires
value_said-requires c = ap valid c.cast.ensures ∙ cast_valid _ _

pub returns-in-Err : goal.returns-in-Err
unfolding answer_by
returns-in-Err c = was_refused (λ (a : Value). said text_of (cast_of a c.args.l)) (c.read.ensures ∙ ap (read_as c.args.k) c.field.ensures) c.in-Err.is c.refused.ensures

pub returns-in-Ok : goal.returns-in-Ok
unfolding answer_by
returns-in-Ok c = was_read (λ (a : Value). said text_of (cast_of a c.args.l)) (c.read.ensures ∙ ap (read_as c.args.k) c.field.ensures) c.in-Ok.is (renamed text_of c.cast.ensures c.value_said.ensures)
