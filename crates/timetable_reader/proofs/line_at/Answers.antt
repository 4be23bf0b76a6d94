use mathlib.Core.Path.{ap, ◌∙◌}
use Rattle.timetable.specs.Lines.{after_end, next_line}
use Rattle.timetable_reader.proofs.line_at.Goals as goal

pub returns : goal.returns
unfolding next_line
returns c =
    let end-found = c.line_end-end.ensures in
    (end-found, c.after_end-next.ensures ∙ ap (after_end _) end-found)
