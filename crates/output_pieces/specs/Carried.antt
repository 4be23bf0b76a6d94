-- Carried: how many bytes the program's loops have told, stage by stage. No promise to a caller rests on it: what the program
-- says at its end is said of the output itself (crate `output`).
use Rattle.std.specs.Prelude.{List, [], ◌∷◌, ℕ, zero, suc, ◌+◌, length}
use Rattle.basis.specs.Choice.{pick}
use Rattle.basis.specs.Answer.{Answer, gives, refuses_for}
use Rattle.timetable.specs.Lines.{Line, offset_lines}
use Rattle.desk_seat.specs.Files.{Files}
use Rattle.desk_seat.specs.Request.{asking}
use Rattle.desk.specs.Desk.{open_of}
use Rattle.desk.specs.declared.Desk.{Desk}
use Rattle.output_turns.specs.declared.WrittenTurns.{WrittenTurns}
use Rattle.output_pieces.specs.Bounds.{room_size}
use Rattle.output_pieces.specs.Pieces.{start_piece, open_piece, turns_piece, opened_all, most_turns}

-- the bytes that many turns wrote; a refusal writes nothing
abbrev pub written_count : Answer WrittenTurns → ℕ
written_count (gives w) = w.count
written_count (refuses_for r) = 0

-- those of the conditions' lines
unfoldable pub opened_told : List Line → Desk → ℕ
opened_told [] d = 0
opened_told (l ∷ ls) d = length (open_piece (asking l.text) d).text + opened_told ls (open_of (asking l.text) d).desk

-- those of the turns' pieces, until they end with Idle or are refused; at most n pieces
unfoldable pub until_idle_told : Files → ℕ → Desk → ℕ
until_idle_told f zero d = 0
until_idle_told f (suc n) d =
    length (turns_piece f d room_size).text + pick (turns_piece f d room_size).more (until_idle_told f n (turns_piece f d room_size).desk) 0

-- of the conditions and of the turns
abbrev pub served_told : Files → List ℕ → Desk → ℕ
served_told f input d = opened_told (offset_lines input) d + until_idle_told f most_turns (opened_all (offset_lines input) d)

-- of all the program's pieces
abbrev pub told_at_end : Files → List ℕ → ℕ
told_at_end f input =
    length (start_piece (length f.timetable) (length input)).text
    + pick (start_piece (length f.timetable) (length input)).more
    (served_told f input (start_piece (length f.timetable) (length input)).desk) 0
