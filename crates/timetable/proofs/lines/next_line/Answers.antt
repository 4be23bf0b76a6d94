use Rattle.timetable.specs.Lines.{next_line}
use Rattle.timetable.proofs.lines.next_line.Goals as goal

pub returns : goal.returns
unfolding next_line
returns c = cc
