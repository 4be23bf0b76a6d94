-- Document 01, "The desk program": what it prints, by the bytes of the timetable and of the conditions.
--
--   "It reads `timetable.tsv` and, from standard input, conditions one a line (lines as in the timetable); opens them in
--   order, then takes turns until Idle. Output lines ..; last `idle`. A timetable too long prints only `refused` 11; otherwise
--   input over 4,096 bytes prints only `refused` 7. A file that can't be opened counts as empty."
--
-- The last sentence is about the reads, of which no definition can speak: such a file's bytes are none. `(m : ℕ) × P` reads: there is an m with P.
use Rattle.std.specs.Prelude.{◌≡◌, true, false, List, [], ◌∷◌, ◌++◌, ℕ, zero, suc, ◌+◌, ◌*◌, ◌≤◌, ◌<◌, ltb, length, take}
use Rattle.basis.specs.Choice.{pick}
use Rattle.basis.specs.Answer.{gives}
use Rattle.timetable.specs.Lines.{Line, offset_lines}
use Rattle.value.specs.Refusals.{bad_condition, wrong_timetable}
use Rattle.desk_seat.specs.Bounds.{max_timetable}
use Rattle.desk_seat.specs.Files.{Files, over}
use Rattle.desk_seat.specs.Request.{asking}
use Rattle.desk_seat.specs.Answers.{idle}
use Rattle.desk.specs.Desk.{fresh_for, open_of, turn_of}
use Rattle.desk.specs.declared.Desk.{Desk}
use Rattle.output_lines.specs.Text.{refused_line, open_line, turn_line, line_room}
use Rattle.output_turns.specs.Turns.{is_idle, lines_of_turns, answer_after}
use Rattle.output_pieces.specs.Bounds.{max_input}
use Rattle.output_pieces.specs.Pieces.{opened_all, most_turns}

-- "opens them in order": a line for each condition
unfoldable pub open_lines : List Line → Desk → List ℕ
open_lines [] d = []
open_lines (l ∷ ls) d = open_line (open_of (asking l.text) d).answer ++ open_lines ls (open_of (asking l.text) d).desk

-- "takes turns until Idle": a line for each turn up to and with `idle`; at most n of them
unfoldable pub turn_lines : ℕ → Files → Desk → List ℕ
turn_lines zero f d = []
turn_lines (suc n) f d =
    turn_line (turn_of f d).answer ++ elim (is_idle (turn_of f d).answer) [ true ↦ [] | false ↦ turn_lines n f (turn_of f d).desk ]

-- the desk with the conditions opened
abbrev pub opened_for : Files → List ℕ → Desk
opened_for f input = opened_all (offset_lines input) (fresh_for f).desk

-- what the program prints: a timetable too long stops it, otherwise an input too long does, otherwise it opens the conditions
-- and takes the turns
unfoldable pub output_of : Files → List ℕ → List ℕ
output_of f input =
    pick (ltb max_timetable (length f.timetable)) (refused_line wrong_timetable)
    (pick (ltb max_input (length input)) (refused_line bad_condition)
    (open_lines (offset_lines input) (fresh_for f).desk ++ turn_lines most_turns f (opened_for f input)))

-- ---- the count of turns is enough: without it, the output is the conditions' lines and the lines of m turns and one more,
-- the last, which is Idle, and none before it is
pub record ToIdle (f : Files) (input : List ℕ) (m : ℕ) : Type 0 where
  pub whole : output_of f input ≡ open_lines (offset_lines input) (fresh_for f).desk ++ lines_of_turns (suc m) f (opened_for f input)
  pub earlier : (j : ℕ) → j < m → is_idle (answer_after j f (opened_for f input)) ≡ false
  pub last : answer_after m f (opened_for f input) ≡ gives idle

abbrev pub GoesToIdle : Type 0
GoesToIdle = (f : Files) (input : List ℕ) → length f.timetable ≤ max_timetable → length input ≤ max_input → (m : ℕ) × ToIdle f input m

-- "last `idle`"
abbrev pub LastIsIdle : Type 0
LastIsIdle =
    (f : Files) (input : List ℕ) → length f.timetable ≤ max_timetable → length input ≤ max_input
    → (before : List ℕ) × (output_of f input ≡ before ++ turn_line (gives idle))

-- a program that reads one byte more than is allowed, and no further, has read enough
abbrev pub ReadsEnough : Type 0
ReadsEnough = (t input : List ℕ) → output_of (over (take (max_timetable + 1) t)) (take (max_input + 1) input) ≡ output_of (over t) input

-- no more bytes than these: room for a line for each byte of the input, since no condition is without a byte or byte 10, and for
-- each turn
abbrev pub most_bytes : ℕ
most_bytes = line_room * (max_input + most_turns)

abbrev pub Bounded : Type 0
Bounded = (f : Files) (input : List ℕ) → length (output_of f input) ≤ most_bytes
