use mathlib.Core.Path.{ap, sym, ◌∙◌}
use Rattle.value.specs.Kinds.{meaning}
use Rattle.text.proofs.RoundTrip.{what_reads_is_valid}
use Rattle.text.specs.Reading.{read_as}
use Rattle.calls.specs.Answers.{one_text, answer_by}
use Rattle.calls.proofs.Saying.{was_read, was_refused}
use Rattle.calls.proofs.one_call.Goals as goal

pub one_said-requires : goal.one_said-requires
one_said-requires c = (what_reads_is_valid c.args.k _ _ (sym c.read.ensures ∙ ap meaning c.in-Ok.is)).ok

pub returns-in-Err : goal.returns-in-Err
unfolding answer_by
returns-in-Err c = was_refused (one_text c.args.o) (c.read.ensures ∙ ap (read_as c.args.k) c.field.ensures) c.in-Err.is c.refused.ensures

pub returns-in-Ok : goal.returns-in-Ok
unfolding answer_by
returns-in-Ok c = was_read (one_text c.args.o) (c.read.ensures ∙ ap (read_as c.args.k) c.field.ensures) c.in-Ok.is c.one_said.ensures
