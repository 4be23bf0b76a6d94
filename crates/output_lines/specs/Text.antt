-- Document 01, "The desk program": "Output lines, tab between fields: `open` ticket; `refused` number; `hit` or `miss` ticket
-- offset; `unreadable` ticket offset number; `done` ticket hits unreadables; last `idle`." Document 02, b: "Hit and Miss gain the
-- seat's place". Each line ends with byte 10.
use Rattle.std.specs.Prelude.{List, [], ◌∷◌, ◌++◌, ℕ}
use Rattle.basis.specs.Answer.{Answer, gives, refuses_for}
use Rattle.basis.specs.Letters.{bytes}
use Rattle.timetable.specs.Fields.{tab}
use Rattle.timetable.specs.Lines.{newline}
use Rattle.numerals.specs.Writing.{decimal}
use Rattle.desk_seat.specs.Answers.{Turned, idle, hit_at, miss_at, unreadable_at, done_with}

-- numbers in decimal without leading zeros, a tab before each
unfoldable pub numbers : List ℕ → List ℕ
numbers [] = []
numbers (n ∷ ns) = tab ∷ (decimal n ++ numbers ns)

-- a line: its word and its numbers
unfoldable pub line_with : List ℕ → List ℕ → List ℕ
line_with word ns = word ++ (numbers ns ++ (newline ∷ []))

abbrev pub refused_line : ℕ → List ℕ
refused_line n = line_with (bytes "refused") (n ∷ [])

-- the line of what open answers
abbrev pub open_line : Answer ℕ → List ℕ
open_line (gives ticket) = line_with (bytes "open") (ticket ∷ [])
open_line (refuses_for r) = refused_line r.number

-- the line of what a turn answers
abbrev pub turn_line : Answer Turned → List ℕ
turn_line (gives idle) = line_with (bytes "idle") []
turn_line (gives (hit_at ticket offset place)) = line_with (bytes "hit") (ticket ∷ offset ∷ place ∷ [])
turn_line (gives (miss_at ticket offset place)) = line_with (bytes "miss") (ticket ∷ offset ∷ place ∷ [])
turn_line (gives (unreadable_at ticket offset r)) = line_with (bytes "unreadable") (ticket ∷ offset ∷ r.number ∷ [])
turn_line (gives (done_with ticket hits bad)) = line_with (bytes "done") (ticket ∷ hits ∷ bad ∷ [])
turn_line (refuses_for r) = refused_line r.number

-- a line has room for so many bytes
abbrev pub line_room : ℕ
line_room = 64
