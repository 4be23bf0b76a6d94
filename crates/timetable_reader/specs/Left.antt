-- Document 01, "Timetable, seats and turns": the work reads the timetable "through a line reader that carries the timetable and its own
-- place in it". What a reader has still to read, what it hands out, and where it stands then.
use Rattle.std.specs.Prelude.{◌≡◌, ◌≤◌, ◌<◌, List, length, Option, MatchOption}
use Rattle.std.specs.Iterator.{YieldsFirstBy}
use Rattle.timetable.specs.Lines as the
use Rattle.timetable_reader.specs.declared.LineReader.{LineReader}
use Rattle.timetable_reader.specs.declared.OffsetLine.{OffsetLine}

-- the lines from the reader's offset on
abbrev pub lines_left : LineReader → List the.Line
lines_left r = the.lines_from r.timetable.now r.at

-- a line that it hands out: where it starts, and its bytes
abbrev pub line_read : OffsetLine → the.Line
line_read l = record { offset = l.offset; text = l.text.now }

-- One reading, of the reader before and after it: a line while the offset is within the timetable, and none from the end on.
pub record ReadsOn (before : LineReader) (line : Option OffsetLine) (after : LineReader) : Type 0 where
  -- the line at the reader's offset
  pub reads : MatchOption line (length before.timetable.now ≤ before.at)
      (λ l. (before.at < length before.timetable.now) × (line_read l ≡ the.line_at before.timetable.now before.at))
  -- the reader stands then where the next line starts
  pub moves : MatchOption line (after ≡ before)
      (λ _. (after.timetable ≡ before.timetable) × (after.at ≡ the.next_line before.timetable.now before.at))
  -- so that line is the first of those that were left, and the others are left
  pub left : YieldsFirstBy line_read lines_left before line after
