use mathlib.Core.Path.{ap, sym, ◌∙◌}
use Rattle.operation_ordering.specs.Order.{compared_meaning}
use Rattle.calls.specs.Answers.{order_text}
use Rattle.calls.proofs.Saying.{renamed}
use Rattle.calls.proofs.calling.order_said.Goals as goal

pub returns-in-Ok : goal.returns-in-Ok
returns-in-Ok c = renamed order_text (ap compared_meaning (sym c.in-Ok.is)) (c.from_slice.ensures ∙ c.order_word.ensures)

pub returns-in-Err : goal.returns-in-Err
returns-in-Err c = renamed order_text (ap compared_meaning (sym c.in-Err.is)) c.refused.ensures
