-- Document 01, "Timetable, seats and turns", and document 02, b: a free seat, a seat just taken, and the condition in a seat.
use Rattle.std.specs.Prelude.{true, false, List, ◌++◌, ℕ, ◌-◌, length, take, replicate}
use Rattle.desk_seat.specs.Bounds.{condition_room}
use Rattle.desk_seat.specs.Request.{Request}
use Rattle.desk_seat.specs.declared.Seat.{Seat}

-- a free seat of a fresh desk: all zeros
abbrev pub free_seat : Seat
free_seat =
    record {
      held = false;
      ticket = 0;
      offset = 0;
      place = 0;
      hits = 0;
      unreadable = 0;
      condition_length = 0;
      condition = replicate condition_room 0;
    }

-- a seat just taken: at offset 0 and place 0 with both counts 0, zeros after its condition
abbrev pub seat_for : ℕ → Request → Seat
seat_for ticket r =
    record {
      held = true;
      ticket = ticket;
      offset = 0;
      place = 0;
      hits = 0;
      unreadable = 0;
      condition_length = length r.condition;
      condition = r.condition ++ replicate (condition_room - length r.condition) 0;
    }

-- the condition in a seat
abbrev pub condition_of : Seat → List ℕ
condition_of s = take s.condition_length s.condition
