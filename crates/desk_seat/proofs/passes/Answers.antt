use mathlib.Core.Path.{sym}
use Rattle.desk_seat.proofs.Conditions.{said_accepted, said_refused}
use Rattle.desk_seat.proofs.passes.Goals as goal

pub returns-in-Ok : goal.returns-in-Ok
returns-in-Ok c = sym (said_accepted _ c.check.ensures c.in-Ok.is)

pub returns-in-Err : goal.returns-in-Err
returns-in-Err c = sym (said_refused _ c.check.ensures c.in-Err.is)
