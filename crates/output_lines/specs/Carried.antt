-- Carried: which answers have lines that fit the text of a line. No promise to a caller rests on it: what a line says is
-- Text.antt.
use Rattle.std.specs.Prelude.{◌≤◌, ◌<◌}
use Rattle.basis.specs.Answer.{Answer, gives, refuses_for}
use Rattle.run_times.specs.Occurrences.{most_occurrences}
use Rattle.desk_seat.specs.Bounds.{max_timetable, max_count}
use Rattle.desk_seat.specs.Answers.{Turned, idle, hit_at, miss_at, unreadable_at, done_with}

-- the offset, the place and the counts of an answer are within their bounds, as those of a sound desk are
abbrev pub Within : Answer Turned → Type 0
Within (gives idle) = Unit {0}
Within (gives (hit_at ticket offset place)) = (offset ≤ max_timetable) × (place < most_occurrences)
Within (gives (miss_at ticket offset place)) = (offset ≤ max_timetable) × (place < most_occurrences)
Within (gives (unreadable_at ticket offset r)) = offset ≤ max_timetable
Within (gives (done_with ticket hits bad)) = (hits ≤ max_count) × (bad ≤ max_count)
Within (refuses_for r) = Unit {0}
