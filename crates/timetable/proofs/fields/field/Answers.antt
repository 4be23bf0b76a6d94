use mathlib.Core.Path.{sym}
use Rattle.timetable.proofs.Counting.{no_field_empty}
use Rattle.timetable.proofs.fields.field.Goals as goal

pub returns-in-None : goal.returns-in-None
returns-in-None c = sym (no_field_empty _ _ c.in-None.ensures)
