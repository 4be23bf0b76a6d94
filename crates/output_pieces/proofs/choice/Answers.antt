use Rattle.desk.specs.Desk.{fresh_of}
use Rattle.value.specs.Refusals.{bad_condition, wrong_timetable}
use Rattle.output_pieces.specs.Pieces.{stopped}
use Rattle.output_pieces.proofs.Starting.{long_timetable, long_input, both_fit}
use Rattle.output_pieces.proofs.Leaving.{line_leaves, nothing_leaves}
use Rattle.output_pieces.proofs.choice.Goals as goal

pub returns-then-timetable_length-gt-MAX_TIMETABLE : goal.returns-then-timetable_length-gt-MAX_TIMETABLE
returns-then-timetable_length-gt-MAX_TIMETABLE c =
    rw (long_timetable _ _ c.if-timetable_length-gt-MAX_TIMETABLE.true)
    (line_leaves (stopped (fresh_of _).desk wrong_timetable) c.refused_line.result _ _ _ c.refused_line.ensures c.leave.ensures)

pub returns-then-input_length-gt-MAX_INPUT : goal.returns-then-input_length-gt-MAX_INPUT
returns-then-input_length-gt-MAX_INPUT c =
    rw (long_input _ _ c.if-timetable_length-gt-MAX_TIMETABLE.false c.if-input_length-gt-MAX_INPUT.true)
    (line_leaves (stopped (fresh_of _).desk bad_condition) c.refused_line-then-input_length-gt-MAX_INPUT.result _ _ _ c.refused_line-then-input_length-gt-MAX_INPUT.ensures c.leave-then-input_length-gt-MAX_INPUT.ensures)

pub returns : goal.returns
returns c = rw (both_fit _ _ c.if-timetable_length-gt-MAX_TIMETABLE.false c.if-input_length-gt-MAX_INPUT.false) (nothing_leaves _ _)
