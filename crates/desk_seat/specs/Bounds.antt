-- Document 01, "Conditions" and "Timetable, seats and turns", and document 02, b: the bounds of what a seat holds.
use Rattle.std.specs.Prelude.{ℕ, ◌+◌, ◌-◌, ◌*◌}
use Rattle.run_times.specs.Occurrences.{most_occurrences}
use Rattle.desk_seat.specs.Conditions.{max_length}

-- a seat has room for the longest condition
abbrev pub condition_room : ℕ
condition_room = max_length

-- the timetable has at most 65,536 bytes
abbrev pub max_timetable : ℕ
max_timetable = 65_536

-- no count of a seat of a sound desk is greater: 1,440 for each byte up to its offset, and its place, which is below that
abbrev pub max_count : ℕ
max_count = most_occurrences * max_timetable + (most_occurrences - 1)
