-- Carried: what is put into the room, and what the loop that takes the turns hands to the call. No promise to a caller rests on it:
-- what the call gives is Turns.antt.
use Rattle.std.specs.Prelude.{◌≡◌, List, ◌++◌, ℕ, ◌+◌, ◌-◌, leb, length, take, drop, Option, Some, None}
use Rattle.basis.specs.Choice.{pick}
use Rattle.desk.specs.declared.Desk.{Desk}
use Rattle.output_turns.specs.Turns.{Taken}
use Rattle.output_turns.specs.declared.WrittenTurns.{WrittenTurns}

-- the room with a line from an offset on
abbrev pub with_line : ℕ → List ℕ → List ℕ → List ℕ
with_line at line room = take at room ++ (line ++ drop (at + length line) room)

-- a line is put where it fits: where it then ends, and the room after
pub record Put (at : ℕ) (line : List ℕ) (room : List ℕ) (end : Option ℕ) (after : List ℕ) : Type 0 where
  pub end_is : end ≡ pick (leb (length line) (length room - at)) (Some (at + length line)) None
  pub room_is : after ≡ pick (leb (length line) (length room - at)) (with_line at line room) room

-- the desk, the bytes and Idle are those of the turns; the room starts with their lines and keeps its other bytes
pub record Progressed (d : Desk) (w : WrittenTurns) (k : Taken) (before after : List ℕ) : Type 0 where
  pub desk : d ≡ k.desk
  pub count : w.count ≡ length k.text
  pub idle : w.idle ≡ k.idle
  pub room : after ≡ k.text ++ drop (length k.text) before
