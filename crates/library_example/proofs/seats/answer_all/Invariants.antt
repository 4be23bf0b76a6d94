-- The desk after the lines from the offset on is the desk after all of them, and each line that is read is followed by one further on.
use Rattle.std.proofs.Common.{length, ◌-◌, ◌≡◌, ◌≤◌}
use Rattle.timetable.specs.Lines.{lines_from, offset_lines}
use Rattle.desk_seat.specs.Files.{over}
use Rattle.library_example.specs.After.{after_calls}
use Rattle.library_example.proofs.seats.answer_all.Given as goal

abbrev pub invariant-loop-at : goal.invariant-loop-at
invariant-loop-at g l = (l.at ≤ length l.input) × (after_calls (over l.t) (lines_from l.input l.at) l.desk ≡ after_calls (over l.t) (offset_lines l.input) l.initial.desk)

abbrev pub decreases-loop-at : goal.decreases-loop-at
decreases-loop-at g l = length l.input - l.at
