-- Document 01, "The desk program", as pieces: a piece is what one call leaves in lent room, with the desk after it and whether
-- more is due. "A timetable too long prints only `refused` 11; otherwise input over 4,096 bytes prints only `refused` 7":
-- that choice is the piece of the start. Then it "opens them in order", a piece for each condition, and "takes turns until
-- Idle", a piece for as many turns as have their lines in the room.
use Rattle.std.specs.Prelude.{◌≡◌, Bool, true, false, not, List, [], ◌∷◌, ◌++◌, ℕ, zero, suc, ◌+◌, ◌*◌, ltb, length, drop}
use Rattle.basis.specs.Choice.{pick}
use Rattle.basis.specs.Answer.{Answer, gives, refuses_for}
use Rattle.timetable.specs.Lines.{Line, line_at, next_line, offset_lines}
use Rattle.value.specs.Refusals.{bad_condition, wrong_timetable}
use Rattle.run_times.specs.Occurrences.{most_occurrences}
use Rattle.desk_seat.specs.Bounds.{max_timetable}
use Rattle.desk_seat.specs.Files.{Files}
use Rattle.desk_seat.specs.Request.{Request, asking}
use Rattle.desk.specs.Bounds.{seat_count}
use Rattle.desk.specs.Desk.{fresh_of, open_of}
use Rattle.desk.specs.declared.Desk.{Desk}
use Rattle.output_lines.specs.Text.{refused_line, open_line}
use Rattle.output_turns.specs.Turns.{taken, turns_of}
use Rattle.output_turns.specs.declared.WrittenTurns.{WrittenTurns}
use Rattle.output_pieces.specs.Bounds.{max_input, room_size}
use Rattle.output_pieces.specs.declared.PieceEnd.{PieceEnd}

-- the bytes of a piece, the next desk, and whether more is due
pub record Piece : Type 0 where
  pub text : List ℕ
  pub desk : Desk
  pub more : Bool

-- ---- the start, by the lengths of the timetable and of the input

-- a refusal stops the program
abbrev pub stopped : Desk → ℕ → Piece
stopped d n = record { text = refused_line n; desk = d; more = false }

-- nothing is told yet
abbrev pub begun : Desk → Piece
begun d = record { text = []; desk = d; more = true }

unfoldable pub start_piece : ℕ → ℕ → Piece
start_piece long given =
    pick (ltb max_timetable long) (stopped (fresh_of long).desk wrong_timetable)
    (pick (ltb max_input given) (stopped (fresh_of long).desk bad_condition)
    (begun (fresh_of long).desk))

-- ---- a condition: its line
abbrev pub open_piece : Request → Desk → Piece
open_piece r d = record { text = open_line (open_of r d).answer; desk = (open_of r d).desk; more = true }

-- ---- turns: what `turns` writes into a room of some size

-- a refusal writes nothing
abbrev pub written_text : Answer WrittenTurns → List ℕ → List ℕ
written_text (gives w) text = text
written_text (refuses_for r) text = []

-- whether more turns are due: the last one was not Idle
abbrev pub goes_on : Answer WrittenTurns → Bool
goes_on (gives w) = not w.idle
goes_on (refuses_for r) = false

unfoldable pub turns_piece : Files → Desk → ℕ → Piece
turns_piece f d size =
    record {
      text = written_text (turns_of f d size).answer (taken f d size).text;
      desk = (turns_of f d size).desk;
      more = goes_on (turns_of f d size).answer;
    }

-- ---- where the program stands: at its start, at the condition at an offset of the input, or at the turns
pub data Stage : Type 0 where
  starting : Stage
  opening : ℕ → Stage
  turning : Stage

-- the condition at an offset, or the turns where there is none
abbrev pub stage_at : List ℕ → ℕ → Stage
stage_at input at = pick (ltb at (length input)) (opening at) turning

abbrev pub next_stage : List ℕ → Stage → Stage
next_stage input starting = stage_at input 0
next_stage input (opening at) = stage_at input (next_line input at)
next_stage input turning = turning

-- the piece at a stage, from the desk that the one before handed on
abbrev pub piece_of : Files → List ℕ → Stage → Desk → Piece
piece_of f input starting d = start_piece (length f.timetable) (length input)
piece_of f input (opening at) d = open_piece (asking (line_at input at).text) d
piece_of f input turning d = turns_piece f d room_size

-- ---- what a call leaves: the room starts with the piece and keeps its other bytes
pub record Leaves (p : Piece) (r : PieceEnd) (before after : List ℕ) : Type 0 where
  pub count : r.count ≡ length p.text
  pub more : r.more ≡ p.more
  pub room : after ≡ p.text ++ drop (length p.text) before

-- ---- the desk after the pieces of each stage

-- the conditions opened in order, one a line
unfoldable pub opened_all : List Line → Desk → Desk
opened_all [] d = d
opened_all (l ∷ ls) d = opened_all ls (open_of (asking l.text) d).desk

-- turns until they end with Idle or are refused; at most n pieces
unfoldable pub until_idle : Files → ℕ → Desk → Desk
until_idle f zero d = d
until_idle f (suc n) d =
    pick (turns_piece f d room_size).more (until_idle f n (turns_piece f d room_size).desk) (turns_piece f d room_size).desk

-- no more turns than these: of each seat of a full desk 1,440 for each byte of the timetable and one for Done, and one for Idle
abbrev pub most_turns : ℕ
most_turns = seat_count * (most_occurrences * max_timetable + 1) + 1

-- the conditions opened, then the turns taken
abbrev pub served_all : Files → List ℕ → Desk → Desk
served_all f input d = until_idle f most_turns (opened_all (offset_lines input) d)

-- the desk at the program's end, by the timetable and the input
abbrev pub desk_at_end : Files → List ℕ → Desk
desk_at_end f input =
    pick (start_piece (length f.timetable) (length input)).more
    (served_all f input (start_piece (length f.timetable) (length input)).desk)
    (start_piece (length f.timetable) (length input)).desk
