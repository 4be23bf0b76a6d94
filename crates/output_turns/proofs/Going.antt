-- The loop that takes turns: what it has written so far, and what is still to come in the room that is left.
use mathlib.Core.Path.{◌≡◌, refl, sym, ap, ◌∙◌}
use mathlib.Core.Bool.{true, false}
use mathlib.Core.List.{List, [], ◌++◌, append_assoc, append-nil}
use Prim.Native.Nat.{ℕ, ◌+◌, ◌-◌, ◌≤◌, ◌<◌}
use native.Mathlib.Omega.{arith}
use borrow.Author.Tests.{le-leb, lt-leb}
use lib.ListN.{length, take, drop, length-append, length-drop}
use lib.Seq.{take_at, drop_at, length-take-le, drop-drop}
use Rattle.desk_seat.specs.Files.{Files}
use Rattle.desk.specs.Desk.{turn_of}
use Rattle.desk.specs.declared.Desk.{Desk}
use Rattle.output_lines.specs.Text.{turn_line}
use Rattle.output_turns.specs.Turns.{is_idle, none, onto_taken, taken}
use Rattle.output_turns.specs.Carried.{Progressed}
use Rattle.output_turns.specs.declared.WrittenTurns.{WrittenTurns}
use Rattle.output_turns.proofs.Counting.{line_some, taken_next}

-- from the desk d₀ and the room before, the loop stands at a desk, with so many bytes written
pub record Going (f : Files) (d₀ : Desk) (before : List ℕ) (d : Desk) (at : ℕ) (room : List ℕ) : Type 0 where
  pub within : at ≤ length before
  pub size : length room ≡ length before
  pub rest : drop at room ≡ drop at before
  pub so : taken f d₀ (length before) ≡ onto_taken (take at room) (taken f d (length before - at))

module _ (f : Files) (d₀ : Desk) (before : List ℕ) where
  pub going_starts : Going f d₀ before d₀ 0 before
  going_starts =
      let z : length before - 0 ≡ length before = omega arith in
      record { within = omega arith; size = refl; rest = refl; so = rw z }

  module _ (d : Desk) (at : ℕ) (room : List ℕ) (g : Going f d₀ before d at room) where
    -- the bytes written, and the rest of the room
    whole : room ≡ take at room ++ drop at before
    whole = sym (lib.ListN.take-append-drop at room) ∙ ap (λ (x : List ℕ). take at room ++ x) g.rest

    written : length (take at room) ≡ at
    written = length-take-le at room (omega (arith, g.within, g.size))

    -- no line fits any more
    pub going_stops : length before - at < length (turn_line (turn_of f d).answer) → (w : WrittenTurns) → w.count ≡ at → w.idle ≡ false
        → Progressed d w (taken f d₀ (length before)) before room
    going_stops l w wc wi =
        let e : taken f d (length before - at) ≡ none d = taken_next f d (length before - at) ∙ rw (lt-leb _ _ l) in
        let all : taken f d₀ (length before) ≡ record { desk = d; text = take at room; idle = false } = g.so ∙ rw (e, append-nil) in
        let long = written in
        rw all (record { desk = refl; count = wc ∙ sym long; idle = wi; room = whole ∙ rw long })

    -- the room is full
    pub going_full : length before ≤ at → (w : WrittenTurns) → w.count ≡ at → w.idle ≡ false
        → Progressed d w (taken f d₀ (length before)) before room
    going_full l = going_stops (omega (arith, line_some (turn_of f d).answer))

    module _ (line : List ℕ) (is : line ≡ turn_line (turn_of f d).answer) (fits : at + length line ≤ length before)
        (room' : List ℕ) (put : room' ≡ take at room ++ (line ++ drop (at + length line) room)) where
      room_is : room' ≡ (take at room ++ line) ++ drop (at + length line) room
      room_is = put ∙ sym (append_assoc (take at room) line (drop (at + length line) room))

      end_is : length (take at room ++ line) ≡ at + length line
      end_is = omega (arith, length-append (take at room) line, written)

      took : take (at + length line) room' ≡ take at room ++ line
      took = rw room_is (take_at (take at room ++ line) (drop (at + length line) room) (at + length line) end_is)

      left_over : drop (at + length line) room' ≡ drop (at + length line) before
      left_over =
          rw room_is
          (drop_at (take at room ++ line) (drop (at + length line) room) (at + length line) end_is
          ∙ sym (drop-drop (length line) at room) ∙ ap (drop (length line)) g.rest ∙ drop-drop (length line) at before)

      going_size : length room' ≡ length before
      going_size =
          rw room_is
          (omega (arith, length-append (take at room ++ line) (drop (at + length line) room), length-drop (at + length line) room, end_is, g.size))

      goes_so : taken f d₀ (length before) ≡ onto_taken (take at room) (taken f d (length before - at))
      goes_so = g.so

      pub going_on : is_idle (turn_of f d).answer ≡ false → Going f d₀ before (turn_of f d).desk (at + length line) room'
      going_on more =
          let fit : length (turn_line (turn_of f d).answer) ≤ length before - at = omega (arith, ap length is) in
          let e : taken f d (length before - at)
          ≡ onto_taken (turn_line (turn_of f d).answer) (taken f (turn_of f d).desk (length before - at - length (turn_line (turn_of f d).answer))) =
          taken_next f d (length before - at) ∙ rw (le-leb _ _ fit, more) in
          let z : length before - at - length (turn_line (turn_of f d).answer) ≡ length before - (at + length line) = omega (arith, ap length is) in
          record {
            within = fits;
            size = going_size;
            rest = left_over;
            so = goes_so ∙ rw (e, z, took, is, append_assoc);
          }

      pub going_idle : is_idle (turn_of f d).answer ≡ true → (w : WrittenTurns) → w.count ≡ at + length line → w.idle ≡ true
          → Progressed (turn_of f d).desk w (taken f d₀ (length before)) before room'
      going_idle last w wc wi =
          let fit : length (turn_line (turn_of f d).answer) ≤ length before - at = omega (arith, ap length is) in
          let e : taken f d (length before - at)
          ≡ onto_taken (turn_line (turn_of f d).answer) (record { desk = (turn_of f d).desk; text = []; idle = true }) =
          taken_next f d (length before - at) ∙ rw (le-leb _ _ fit, last) in
          let all : taken f d₀ (length before) ≡ record { desk = (turn_of f d).desk; text = take at room ++ line; idle = true } =
          goes_so ∙ rw (e, is, append-nil) in
          rw all (record {
            desk = refl;
            count = wc ∙ sym end_is;
            idle = wi;
            room = sym (lib.ListN.take-append-drop (at + length line) room') ∙ rw (took, left_over, end_is);
          })
