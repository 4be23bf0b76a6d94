use borrow.Author.Tests.{le-leb, lt-leb}
use Rattle.desk.specs.Desk.{fresh_of}
use Rattle.desk.proofs.fresh.Goals as goal

pub returns-then-timetable_length-gt-MAX_TIMETABLE : goal.returns-then-timetable_length-gt-MAX_TIMETABLE
unfolding fresh_of
returns-then-timetable_length-gt-MAX_TIMETABLE c = simp (c.numbered.ensures, c.free-seats.ensures, lt-leb _ _ c.if-timetable_length-gt-MAX_TIMETABLE.true)

pub returns : goal.returns
unfolding fresh_of
returns c = simp (c.free-seats.ensures, le-leb _ _ c.if-timetable_length-gt-MAX_TIMETABLE.false)
