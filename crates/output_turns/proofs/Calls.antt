-- The call that takes many turns: refused as not having room exactly where the first line does not fit, and then nothing was
-- written; else it hands back what the turns gave.
use mathlib.Core.Path.{◌≡◌, refl, sym, ◌∙◌}
use mathlib.Core.Bool.{Bool, true, false}
use mathlib.Core.List.{List, [], ◌++◌, map}
use Prim.Native.Nat.{ℕ, ◌-◌, ◌≤◌, ◌<◌}
use native.Mathlib.Omega.{arith}
use lib.Dec.{leb}
use lib.ListN.{length, drop, length-append, length-map}
use Rattle.basis.specs.Choice.{pick}
use Rattle.value.specs.Refusals.{no_room}
use Rattle.desk_seat.specs.Files.{Files}
use Rattle.desk.specs.Soundness.{sound_of}
use Rattle.desk.specs.Desk.{refused, have_lengths, turn_of}
use Rattle.desk.specs.declared.Desk.{Desk}
use Rattle.output_lines.specs.Text.{turn_line}
use Rattle.output_turns.specs.Turns.{is_idle, Taken, none, onto_taken, taken, wrote, turns_of, room_after}
use Rattle.output_turns.proofs.Counting.{line_some, taken_next}

-- what is as long as its image
pub mapped_length : {X Y : Type 0} (f : X → Y) (l : List X) (n : ℕ) → length (map f l) ≡ n → length l ≡ n
mapped_length f l n p = sym (length-map l f) ∙ p

module _ (f : Files) (d : Desk) (size : ℕ) where
  pub some_written : leb (length (turn_line (turn_of f d).answer)) size ≡ true → 1 ≤ length (taken f d size).text
  some_written e =
      let rest : Taken = pick (is_idle (turn_of f d).answer) (record { desk = (turn_of f d).desk; text = []; idle = true })
      (taken f (turn_of f d).desk (size - length (turn_line (turn_of f d).answer))) in
      let is : taken f d size
      ≡ onto_taken (turn_line (turn_of f d).answer)
      (pick (is_idle (turn_of f d).answer) (record { desk = (turn_of f d).desk; text = []; idle = true })
      (taken f (turn_of f d).desk (size - length (turn_line (turn_of f d).answer)))) =
      taken_next f d size ∙ rw e in
      rw is (omega (arith, line_some (turn_of f d).answer, length-append (turn_line (turn_of f d).answer) rest.text))

  none_taken : leb (length (turn_line (turn_of f d).answer)) size ≡ false → taken f d size ≡ none d
  none_taken e = taken_next f d size ∙ rw e

  none_written : leb (length (turn_line (turn_of f d).answer)) size ≡ false → length (taken f d size).text ≡ 0
  none_written e = rw (none_taken e)

  pub no_room_lem : length (taken f d size).text < 1 → leb (length (turn_line (turn_of f d).answer)) size ≡ false
  no_room_lem l = go (leb (length (turn_line (turn_of f d).answer)) size) refl
    where
      go : (b : Bool) → leb (length (turn_line (turn_of f d).answer)) size ≡ b → leb (length (turn_line (turn_of f d).answer)) size ≡ false
      go false e = e
      go true e = absurd (omega (arith, some_written e))

  pub desk_stays : length (taken f d size).text < 1 → (taken f d size).desk ≡ d
  desk_stays l = rw (none_taken (no_room_lem l))

  pub room_enough : 1 ≤ length (taken f d size).text → leb (length (turn_line (turn_of f d).answer)) size ≡ true
  room_enough l = go (leb (length (turn_line (turn_of f d).answer)) size) refl
    where
      go : (b : Bool) → leb (length (turn_line (turn_of f d).answer)) size ≡ b → leb (length (turn_line (turn_of f d).answer)) size ≡ true
      go true e = e
      go false e = absurd (omega (arith, none_written e))

  module _ (h : sound_of d ≡ true) (e : have_lengths f d ≡ true) where
    pub turns_none : length (taken f d size).text < 1 → turns_of f d size ≡ refused d no_room
    unfolding turns_of
    turns_none l = rw (h, e, no_room_lem l)

    pub turns_some : 1 ≤ length (taken f d size).text → turns_of f d size ≡ wrote (taken f d size)
    unfolding turns_of
    turns_some l = rw (h, e, room_enough l)

pub room_after_lem : (f : Files) (d : Desk) (room : List ℕ) → sound_of d ≡ true → have_lengths f d ≡ true
    → room_after f d room ≡ (taken f d (length room)).text ++ drop (length (taken f d (length room)).text) room
unfolding room_after
room_after_lem f d room h e = rw (h, e)
