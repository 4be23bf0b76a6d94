-- What a call leaves in the room: a line that a text holds, what many turns wrote, and a condition's line.
use Rattle.std.specs.Prelude.{Result, ℕ}
use mathlib.Core.Path.{◌≡◌, refl, sym, ap, ◌∙◌}
use mathlib.Core.Bool.{Bool, true, false}
use mathlib.Core.List.{List, ◌++◌}
use Prim.Native.Nat.{ℕ, ◌+◌}
use native.Mathlib.Omega.{arith}
use lib.Dec.{leb}
use lib.ListN.{length, take, drop}
use Rattle.desk_seat.specs.Files.{Files}
use Rattle.desk.specs.Desk.{have_lengths, turn_of}
use Rattle.desk.specs.Soundness.{sound_of}
use Rattle.desk.specs.declared.Desk.{Desk}
use Rattle.output_lines.specs.Text.{turn_line}
use Rattle.output_turns.specs.Turns.{none, taken, turns_of, room_after, turns_meaning}
use Rattle.output_turns.proofs.Counting.{taken_next}
use Rattle.output_pieces.specs.Pieces.{Piece, begun, goes_on, turns_piece, Leaves}
use Rattle.output_pieces.specs.Carried.{written_count}
use Rattle.output_pieces.specs.declared.PieceEnd.{PieceEnd}
use Rattle.output_turns.specs.declared.WrittenTurns.{WrittenTurns}
use Rattle.value.specs.declared.Refusal.{Refusal}

-- put from offset 0 on
pub put_first : (room w after : List ℕ) (n : ℕ) → after ≡ take 0 room ++ (w ++ drop (0 + n) room) → after ≡ w ++ drop n room
put_first room w after n e = e ∙ ap (λ (m : ℕ). w ++ drop m room) {x = 0 + n} {y = n} (omega arith)

-- the line w is left, by whatever name
abbrev Left : List ℕ → PieceEnd → Bool → List ℕ → List ℕ → Type 0
Left line r more before after = (r.count ≡ length line) × (r.more ≡ more) × (after ≡ line ++ drop (length line) before)

pub line_told : (w line : List ℕ) (more : Bool) (r : PieceEnd) (before after : List ℕ) → line ≡ w → Left line r more before after → Left w r more before after
line_told w line more r before after h e = rw (← h) e

pub line_leaves : (p : Piece) (line : List ℕ) (r : PieceEnd) (before after : List ℕ) → line ≡ p.text → Left line r p.more before after → Leaves p r before after
line_leaves p line r before after h e =
    let z = line_told p.text line p.more r before after h e in
    record { count = z.0; more = z.1; room = z.2 }

-- a piece of no bytes leaves the room as it was
pub nothing_leaves : (d : Desk) (room : List ℕ) → Leaves (begun d) (record { count = 0; more = true }) room room
nothing_leaves d room = record { count = refl; more = refl; room = refl }

-- ---- many turns
module _ (f : Files) (d : Desk) (room : List ℕ) where
  abbrev piece : Piece
  piece = turns_piece f d (length room)

  abbrev Wrote : Type 0
  Wrote = (written_count (turns_of f d (length room)).answer ≡ length piece.text) × (room_after f d room ≡ piece.text ++ drop (length piece.text) room)

  -- the bytes counted are those of the piece, and the room starts with them
  turns_wrote : Wrote
  unfolding turns_of room_after turns_piece
  turns_wrote = go (sound_of d) (have_lengths f d) (leb (length (turn_line (turn_of f d).answer)) (length room)) refl refl refl
    where
      go : (a b c : Bool) → sound_of d ≡ a → have_lengths f d ≡ b → leb (length (turn_line (turn_of f d).answer)) (length room) ≡ c → Wrote
      go false b c e l g = rw e (refl, refl)
      go true false c e l g = rw (e, l) (refl, refl)
      go true true false e l g =
          let n : taken f d (length room) ≡ none d = taken_next f d (length room) ∙ rw g in
          rw (e, l, g, n) (refl, refl)
      go true true true e l g = rw (e, l, g) (refl, refl)

  piece_desk : piece.desk ≡ (turns_of f d (length room)).desk
  unfolding turns_piece
  piece_desk = refl

  piece_more : piece.more ≡ goes_on (turns_of f d (length room)).answer
  unfolding turns_piece
  piece_more = refl

  -- what `turns_in` says, and what is counted by its answer
  pub turns_leave : (h : Desk) (a : Result WrittenTurns Refusal) (r : PieceEnd) (after : List ℕ)
      → (h ≡ (turns_of f d (length room)).desk) × (turns_meaning a ≡ (turns_of f d (length room)).answer) × (after ≡ room_after f d room)
      → (r.count ≡ written_count (turns_meaning a)) × (r.more ≡ goes_on (turns_meaning a)) → (h ≡ piece.desk) × Leaves piece r room after
  turns_leave h a r after e c = (
    e.0 ∙ sym piece_desk,
    record {
      count = c.0 ∙ ap written_count e.1 ∙ turns_wrote.0;
      more = c.1 ∙ ap goes_on e.1 ∙ sym piece_more;
      room = e.2 ∙ turns_wrote.1;
    },
  )
