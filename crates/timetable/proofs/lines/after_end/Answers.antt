use borrow.Author.Tests.{lt-ltb, le-ltb}
use Rattle.timetable.specs.Lines.{after_end}
use Rattle.timetable.proofs.lines.after_end.Goals as goal

pub returns-then-end-t : goal.returns-then-end-t
unfolding after_end
returns-then-end-t c = simp (lt-ltb _ _ c.if-end-t.true)

pub returns-else-end-t : goal.returns-else-end-t
unfolding after_end
returns-else-end-t c = simp (le-ltb _ _ c.if-end-t.false)
