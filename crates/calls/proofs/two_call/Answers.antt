use mathlib.Core.Path.{ap, ◌∙◌}
use Rattle.text.specs.Reading.{read_as}
use Rattle.timetable.specs.Fields.{field_at}
use Rattle.value.specs.declared.Value.{Value}
use Rattle.calls.specs.Answers.{said, two_text, answer_by}
use Rattle.calls.proofs.Saying.{was_read, was_refused}
use Rattle.calls.proofs.two_call.Goals as goal

pub returns-in-Err : goal.returns-in-Err
unfolding answer_by
returns-in-Err c = was_refused (λ (a : Value). said (two_text c.args.o a) (read_as c.args.right (field_at c.args.line.now 5))) (c.read.ensures ∙ ap (read_as c.args.left) c.field.ensures) c.in-Err.is c.refused.ensures

pub returns-in-Err-read : goal.returns-in-Err-read
unfolding answer_by
returns-in-Err-read c = was_read (λ (a : Value). said (two_text c.args.o a) (read_as c.args.right (field_at c.args.line.now 5))) (c.read.ensures ∙ ap (read_as c.args.left) c.field.ensures) c.in-Ok.is (was_refused (two_text c.args.o _) (c.read-in-Ok.ensures ∙ ap (read_as c.args.right) c.field-in-Ok.ensures) c.in-Err-read.is c.refused-in-Err-read.ensures)

pub returns-in-Ok-read : goal.returns-in-Ok-read
unfolding answer_by
returns-in-Ok-read c = was_read (λ (a : Value). said (two_text c.args.o a) (read_as c.args.right (field_at c.args.line.now 5))) (c.read.ensures ∙ ap (read_as c.args.left) c.field.ensures) c.in-Ok.is (was_read (two_text c.args.o _) (c.read-in-Ok.ensures ∙ ap (read_as c.args.right) c.field-in-Ok.ensures) c.in-Ok-read.is c.two_said.ensures)
