-- Document 01, "Timetable, seats and turns": what a turn does to the seat that it serves. "Offset at the timetable's end:
-- Done with the ticket, its hits and its unreadable lines; the seat is freed; else its next line: Hit, Miss or Unreadable
-- (with a number), each with ticket and line offset." Document 02, b: "Each turn judges one occurrence .. The offset stays the line's; Hit
-- and Miss gain the seat's place, which is 0 from Open and again at each next line."
use Rattle.std.specs.Prelude.{Bool, List, ℕ, ◌+◌, ltb, length}
use Rattle.basis.specs.Choice.{pick}
use Rattle.value_instants.specs.Ticks.{utc}
use Rattle.timetable.specs.Lines.{next_line, line_at}
use Rattle.run_cases.specs.Cases.{Case, row_case, miss_case, refusal_case, case_at}
use Rattle.run_cases.specs.StandsFor.{stands_for}
use Rattle.desk_seat.specs.Files.{Files}
use Rattle.desk_seat.specs.Conditions.{Result, hit, miss, unreadable, result_at}
use Rattle.desk_seat.specs.Answers.{Turned, hit_at, miss_at, unreadable_at, done_with}
use Rattle.desk_seat.specs.Seat.{free_seat, condition_of}
use Rattle.desk_seat.specs.declared.Seat.{Seat}
use Rattle.desk_seat.specs.declared.Spot.{Spot}

-- a seat after a turn of its own, and the answer
pub record Step : Type 0 where
  pub seat : Seat
  pub answer : Turned

-- the seat at another spot and with other counts
abbrev pub seat_moved : Seat → Spot → ℕ → ℕ → Seat
seat_moved s to hits bad =
    record {
      held = s.held;
      ticket = s.ticket;
      offset = to.offset;
      place = to.place;
      hits = hits;
      unreadable = bad;
      condition_length = s.condition_length;
      condition = s.condition;
    }

-- after a case with a result, going on at a spot
abbrev pub judged_as : Spot → Seat → Result → Step
judged_as to s hit =
    record { seat = seat_moved s to (s.hits + 1) s.unreadable; answer = hit_at s.ticket s.offset s.place }
judged_as to s miss =
    record { seat = seat_moved s to s.hits s.unreadable; answer = miss_at s.ticket s.offset s.place }
judged_as to s (unreadable r) =
    record { seat = seat_moved s to s.hits (s.unreadable + 1); answer = unreadable_at s.ticket s.offset r }

-- whether a line is left: the offset is not at the timetable's end
abbrev pub has_line : Files → Seat → Bool
has_line f s = ltb s.offset (length f.timetable)

-- what a line stands for to a seat: values without a zone count as UTC
abbrev pub cases_of : List ℕ → List Case
cases_of line = stands_for utc line

-- what the line at an offset stands for
abbrev pub cases_at : Files → ℕ → List Case
cases_at f offset = cases_of (line_at f.timetable offset).text

-- the result of a condition at a case: an empty run is a Miss, a bad line Unreadable
abbrev pub case_result : List ℕ → Case → Result
case_result c (row_case row) = result_at utc c row
case_result c miss_case = miss
case_result c (refusal_case r) = unreadable r

-- the result of the seat's condition at its place
abbrev pub seat_result : Files → Seat → Result
seat_result f s = case_result (condition_of s) (case_at (cases_at f s.offset) s.place)

-- the next place of the line where it has one, else the next line, at place 0
unfoldable pub onward_from : Files → Seat → Spot
onward_from f s =
    pick (ltb (s.place + 1) (length (cases_at f s.offset)))
    (record { offset = s.offset; place = s.place + 1 })
    (record { offset = next_line f.timetable s.offset; place = 0 })

unfoldable pub serve_of : Files → Seat → Step
serve_of f s =
    pick (has_line f s)
    (judged_as (onward_from f s) s (seat_result f s))
    (record { seat = free_seat; answer = done_with s.ticket s.hits s.unreadable })
