-- Demand 3's L, and what is left of it to a seat, Done not counted. Document 02, b: "In demand 3, L is now the number of turns the lines
-- stand for: one for a plain, bad or empty_run line, else its occurrences." The argument about rounds knows of them only that what is
-- left falls by one at each turn of the seat's own (proofs/TurnsLeft.antt).
use Rattle.std.specs.Prelude.{List, [], ◌∷◌, ℕ, ◌+◌, ◌-◌, ltb, length}
use Rattle.basis.specs.Choice.{pick}
use Rattle.timetable.specs.Lines.{Line, next_line, lines_from, offset_lines}
use Rattle.desk_seat.specs.Files.{Files}
use Rattle.desk_seat.specs.Serving.{has_line, cases_of, cases_at}
use Rattle.desk_seat.specs.declared.Seat.{Seat}

-- the turns that some lines stand for: those of each, added up
unfoldable pub turns_of_lines : List Line → ℕ
turns_of_lines [] = 0
turns_of_lines (l ∷ ls) = length (cases_of l.text) + turns_of_lines ls

-- L: the turns that the timetable's lines stand for
unfoldable pub turns_asked : Files → ℕ
turns_asked f = turns_of_lines (offset_lines f.timetable)

-- what a line has from a place on: a place that it does not reach is one turn
abbrev pub places_from : ℕ → ℕ → ℕ
places_from place count = pick (ltb place count) (count - place) 1

-- what a seat has left: the places of its line from its own on, and the turns of the lines after it; nothing at the timetable's end
unfoldable pub turns_left : Files → Seat → ℕ
turns_left f s =
    pick (has_line f s)
    (places_from s.place (length (cases_at f s.offset)) + turns_of_lines (lines_from f.timetable (next_line f.timetable s.offset)))
    0
