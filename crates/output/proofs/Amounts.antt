-- How many bytes the output has: as many as its pieces together, and no more than a line for each byte of the input and for each
-- turn.
use native.Mathlib.Omega.{arith}
use mathlib.Core.Path.{◌≡◌, refl, sym, ap, ◌∙◌}
use mathlib.Core.Bool.{Bool, true, false}
use mathlib.Core.List.{List, [], ◌∷◌}
use mathlib.Core.Logic.{⊎_elim}
use Prim.Native.Nat.{ℕ, zero, suc, ◌+◌, ◌-◌, ◌*◌, ◌≤◌, ◌<◌}
use borrow.Author.Tests.{ltb-true, ltb-false}
use lib.Dec.{ltb}
use lib.ListN.{length, length-append}
use Rattle.basis.specs.Choice.{pick}
use Rattle.timetable.specs.Lines.{Line, line_at, next_line, lines_from, offset_lines}
use Rattle.timetable.proofs.Offsets.{line_or_end, lines_end, lines_next, next_further}
use Rattle.value.specs.Refusals.{bad_condition, wrong_timetable}
use Rattle.desk_seat.specs.Bounds.{max_timetable}
use Rattle.desk_seat.specs.Files.{Files}
use Rattle.desk_seat.specs.Request.{asking}
use Rattle.desk.specs.Desk.{fresh_for, open_of, turn_of}
use Rattle.desk.specs.declared.Desk.{Desk}
use Rattle.output_lines.specs.Text.{open_line, turn_line, line_room}
use Rattle.output_turns.specs.Turns.{is_idle}
use Rattle.output_pieces.specs.Bounds.{max_input, room_size}
use Rattle.output_pieces.specs.Pieces.{turns_piece, most_turns}
use Rattle.output_pieces.specs.Carried.{opened_told, until_idle_told, told_at_end}
use Rattle.output_pieces.proofs.Starting.{long_timetable, long_input, both_fit}
use Rattle.output.specs.Output.{open_lines, turn_lines, opened_for, output_of, most_bytes, Bounded}
use Rattle.output.specs.Carried.{ToldIsTheOutput}
use Rattle.output.proofs.Lengths.{open_fits, refused_fits}
use Rattle.output.proofs.Left.{desk_left}
use Rattle.output.proofs.Ready.{Ready, line_fits, turn_ready, enough, opened_ready, fresh_ready}
use Rattle.output.proofs.TurnLines.{told, lines_next as turn_next}
use Rattle.output.proofs.Joining.{piece_lines, piece_ready, piece_less}
use Rattle.output.proofs.Telling.{long_timetable_told, long_input_told, both_told}

-- ---- the pieces' bytes are the lines' bytes
opened_told_lem : (ls : List Line) (d : Desk) → opened_told ls d ≡ length (open_lines ls d)
unfolding opened_told open_lines
opened_told_lem [] d = refl
opened_told_lem (l ∷ ls) d =
    let r = asking l.text in
    omega (arith, opened_told_lem ls (open_of r d).desk, length-append (open_line (open_of r d).answer) (open_lines ls (open_of r d).desk))

until_idle_told_lem : (n : ℕ) (f : Files) (d : Desk) → Ready f d → desk_left f d < n → until_idle_told f n d ≡ length (told f d)
unfolding until_idle_told
until_idle_told_lem zero f d o l = absurd (omega arith)
until_idle_told_lem (suc n) f d o l =
    go (turns_piece f d room_size).more refl (λ e. until_idle_told_lem n f (turns_piece f d room_size).desk (piece_ready f d o) (let less = piece_less f d o e in omega arith))
    ∙ sym (length-append (turns_piece f d room_size).text (pick (turns_piece f d room_size).more (told f (turns_piece f d room_size).desk) [])) ∙ ap length (sym (piece_lines f d o))
  where
    go : (b : Bool) → (turns_piece f d room_size).more ≡ b → ((turns_piece f d room_size).more ≡ true → until_idle_told f n (turns_piece f d room_size).desk ≡ length (told f (turns_piece f d room_size).desk))
        → length (turns_piece f d room_size).text + pick (turns_piece f d room_size).more (until_idle_told f n (turns_piece f d room_size).desk) 0
        ≡ length (turns_piece f d room_size).text + length (pick (turns_piece f d room_size).more (told f (turns_piece f d room_size).desk) [])
    go true e next = rw e (ap (λ (x : ℕ). length (turns_piece f d room_size).text + x) (next e))
    go false e next = rw e

pub told_is_the_output : ToldIsTheOutput
told_is_the_output f input = go (ltb max_timetable (length f.timetable)) (ltb max_input (length input)) refl refl
  where
    go : (a b : Bool) → ltb max_timetable (length f.timetable) ≡ a → ltb max_input (length input) ≡ b → told_at_end f input ≡ length (output_of f input)
    go true b p q =
        let l = ltb-true max_timetable (length f.timetable) p in
        rw (long_timetable (length f.timetable) (length input) l, long_timetable_told f input l) (omega arith)
    go false true p q =
        let h = ltb-false max_timetable (length f.timetable) p in
        let l = ltb-true max_input (length input) q in
        rw (long_input (length f.timetable) (length input) h l, long_input_told f input h l) (omega arith)
    go false false p q =
        let h = ltb-false max_timetable (length f.timetable) p in
        let l = ltb-false max_input (length input) q in
        let o = opened_ready f (offset_lines input) (fresh_for f).desk (fresh_ready f h) in
        rw (both_fit (length f.timetable) (length input) h l, both_told f input h l)
        (omega (
          arith,
          opened_told_lem (offset_lines input) (fresh_for f).desk,
          until_idle_told_lem most_turns f (opened_for f input) o (enough f (opened_for f input) o),
          length-append (open_lines (offset_lines input) (fresh_for f).desk) (turn_lines most_turns f (opened_for f input)),
        ))

-- ---- a bound
open_lines_few : (k : ℕ) (input : List ℕ) (at : ℕ) (d : Desk) → length input - at ≤ k → length (open_lines (lines_from input at) d) ≤ line_room * k
unfolding open_lines
open_lines_few zero input at d h = rw (lines_end input at (omega arith)) (omega arith)
open_lines_few (suc k) input at d h =
    ⊎_elim
    (λ l.
    let r = asking (line_at input at).text in
    let ls = lines_from input (next_line input at) in
    rw (lines_next input at l)
    (omega (arith, open_fits r d, length-append (open_line (open_of r d).answer) (open_lines ls (open_of r d).desk), open_lines_few k input (next_line input at) (open_of r d).desk (omega (arith, next_further input at l)))))
    (λ e. rw (lines_end input at e) (omega arith))
    (line_or_end input at)

no_lines : (f : Files) (d : Desk) → turn_lines zero f d ≡ []
unfolding turn_lines
no_lines f d = refl

turn_lines_few : (n : ℕ) (f : Files) (d : Desk) → Ready f d → length (turn_lines n f d) ≤ line_room * n
turn_lines_few zero f d o = rw (no_lines f d) (omega arith)
turn_lines_few (suc n) f d o =
    let line = turn_line (turn_of f d).answer in
    rw (turn_next n f d)
    (omega (arith, line_fits f d o, length-append line (pick (is_idle (turn_of f d).answer) [] (turn_lines n f (turn_of f d).desk)), go (is_idle (turn_of f d).answer), turn_lines_few n f (turn_of f d).desk (turn_ready f d o)))
  where
    go : (b : Bool) → length (pick b [] (turn_lines n f (turn_of f d).desk)) ≤ length (turn_lines n f (turn_of f d).desk)
    go true = omega arith
    go false = omega arith

from_start : (input : List ℕ) (d : Desk) → open_lines (offset_lines input) d ≡ open_lines (lines_from input 0) d
unfolding offset_lines
from_start input d = refl

pub bounded : Bounded
bounded f input = go (ltb max_timetable (length f.timetable)) (ltb max_input (length input)) refl refl
  where
    go : (a b : Bool) → ltb max_timetable (length f.timetable) ≡ a → ltb max_input (length input) ≡ b → length (output_of f input) ≤ most_bytes
    go true b p q = rw (long_timetable_told f input (ltb-true max_timetable (length f.timetable) p)) (omega (arith, refused_fits wrong_timetable (omega arith)))
    go false true p q =
        rw (long_input_told f input (ltb-false max_timetable (length f.timetable) p) (ltb-true max_input (length input) q)) (omega (arith, refused_fits bad_condition (omega arith)))
    go false false p q =
        let h = ltb-false max_timetable (length f.timetable) p in
        let l = ltb-false max_input (length input) q in
        let o = opened_ready f (offset_lines input) (fresh_for f).desk (fresh_ready f h) in
        rw (both_told f input h l)
        (omega (
          arith,
          length-append (open_lines (offset_lines input) (fresh_for f).desk) (turn_lines most_turns f (opened_for f input)),
          turn_lines_few most_turns f (opened_for f input) o,
          ap length (from_start input (fresh_for f).desk),
          open_lines_few max_input input 0 (fresh_for f).desk (omega arith),
        ))
