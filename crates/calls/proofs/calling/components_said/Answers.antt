use mathlib.Core.Path.{ap, sym}
use Rattle.value_components.specs.Components.{components_meaning}
use Rattle.calls_replies.specs.ReplyParts.{parts_text}
use Rattle.calls.proofs.Saying.{renamed}
use Rattle.calls.proofs.calling.components_said.Goals as goal

pub returns-in-Ok : goal.returns-in-Ok
returns-in-Ok c = renamed parts_text (ap components_meaning (sym c.in-Ok.is)) c.parts_said.ensures

pub returns-in-Err : goal.returns-in-Err
returns-in-Err c = renamed parts_text (ap components_meaning (sym c.in-Err.is)) c.refused.ensures
