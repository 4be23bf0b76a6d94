use Rattle.timetable.specs.Lines.{line_end}
use Rattle.timetable.proofs.lines.line_end.Goals as goal

pub returns : goal.returns
unfolding line_end
returns c = c.offset_of.ensures
