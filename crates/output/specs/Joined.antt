-- The pieces that the program writes, from its start to the first after which nothing more is due, joined, are its output.
-- `(m : ℕ) × P` reads: there is an m with P.
use Rattle.std.specs.Prelude.{◌≡◌, true, false, List, [], ◌++◌, ℕ, zero, suc, ◌+◌, ◌≤◌, ◌<◌, length}
use Rattle.basis.specs.Answer.{gives}
use Rattle.desk_seat.specs.Bounds.{max_timetable}
use Rattle.desk_seat.specs.Files.{Files}
use Rattle.desk_seat.specs.Answers.{idle}
use Rattle.desk.specs.Desk.{no_desk, turn_of}
use Rattle.desk.specs.declared.Desk.{Desk}
use Rattle.output_pieces.specs.Bounds.{max_input}
use Rattle.output_pieces.specs.Pieces.{Piece, Stage, starting, next_stage, piece_of, most_turns, desk_at_end}
use Rattle.output.specs.Output.{output_of}

-- the piece after n others, from a stage and a desk
unfoldable pub piece_after : ℕ → Files → List ℕ → Stage → Desk → Piece
piece_after zero f input s d = piece_of f input s d
piece_after (suc n) f input s d = piece_after n f input (next_stage input s) (piece_of f input s d).desk

-- the bytes of n pieces, joined
unfoldable pub joined_pieces : ℕ → Files → List ℕ → Stage → Desk → List ℕ
joined_pieces zero f input s d = []
joined_pieces (suc n) f input s d = (piece_of f input s d).text ++ joined_pieces n f input (next_stage input s) (piece_of f input s d).desk

-- the pieces of the program, from its start, where there is no desk yet
abbrev pub piece : ℕ → Files → List ℕ → Piece
piece n f input = piece_after n f input starting no_desk

-- no more pieces than these: the start, the conditions, of which none is without a byte or byte 10, and the turns
abbrev pub piece_count : ℕ
piece_count = 1 + max_input + most_turns

-- m pieces and one more, the last: after each of the m more is due, after the last nothing is
pub record Pieces (f : Files) (input : List ℕ) (m : ℕ) : Type 0 where
  pub within : m < piece_count
  pub earlier : (j : ℕ) → j < m → (piece j f input).more ≡ true
  pub last : (piece m f input).more ≡ false
  pub whole : joined_pieces (suc m) f input starting no_desk ≡ output_of f input
  pub desk : (piece m f input).desk ≡ desk_at_end f input

abbrev pub PiecesAreTheOutput : Type 0
PiecesAreTheOutput = (f : Files) (input : List ℕ) → (m : ℕ) × Pieces f input m

-- where neither is too long, the next turn of the desk at the end would be Idle: no query is left without its last answer
abbrev pub EndsIdle : Type 0
EndsIdle =
    (f : Files) (input : List ℕ) → length f.timetable ≤ max_timetable → length input ≤ max_input
    → (turn_of f (desk_at_end f input)).answer ≡ gives idle
