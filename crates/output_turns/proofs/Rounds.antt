-- One round of the loop that takes turns: the turn is that of a sound desk, its line fits in what is left of the room or the
-- loop stops, and at Idle it stops too.
use mathlib.Core.Path.{◌≡◌, refl, sym, ap, ◌∙◌}
use mathlib.Core.Bool.{true, false}
use mathlib.Core.List.{List, ◌++◌}
use Prim.Native.Nat.{ℕ, ◌+◌, ◌≤◌, ◌<◌}
use native.Mathlib.Omega.{arith}
use lib.ListN.{length, take, drop}
use Rattle.desk_seat.specs.Files.{Files}
use Rattle.desk_seat.specs.Answers.{Turned, turn_meaning}
use Rattle.desk.specs.Bounds.{seat_count}
use Rattle.desk.specs.Answers.{After, after_turn}
use Rattle.desk.specs.Soundness.{sound_of}
use Rattle.desk.specs.Desk.{next_of, have_lengths, turn_of}
use Rattle.desk.specs.declared.Desk.{Desk}
use Rattle.desk.specs.declared.AfterTurn.{AfterTurn}
use Rattle.desk_laws.proofs.Sound.{sound_in, sound_out}
use Rattle.desk_laws.proofs.Steps.{turn_lengths}
use Rattle.desk_laws.proofs.Lasting.{turn_lasts}
use Rattle.output_lines.specs.Text.{turn_line}
use Rattle.output_turns.specs.Turns.{is_idle, taken}
use Rattle.output_turns.specs.Carried.{Progressed}
use Rattle.output_turns.proofs.Counting.{line_some}
use Rattle.output_turns.proofs.Fitting.{Fitted, Lacking}
use Rattle.output_turns.proofs.Going.{Going, going_stops, going_full, going_on, going_idle}

-- the turn of a sound desk, over a timetable of its length
turn_is : (f : Files) (d : Desk) → sound_of d ≡ true → have_lengths f d ≡ true → turn_of f d ≡ next_of f d
unfolding turn_of
turn_is f d h e = rw (h, e)

-- where the loop stands
pub record Loop (f : Files) (before : List ℕ) (d₀ : Desk) (room : List ℕ) (d : Desk) (at : ℕ) : Type 0 where
  pub sound : sound_of d ≡ true
  pub same : have_lengths f d ≡ true
  pub going : Going f d₀ before d at room

module _ {f : Files} {before room : List ℕ} {d₀ d : Desk} {at : ℕ} (g : Loop f before d₀ room d at) where
  -- the room is full
  pub ran_full : length room ≤ at → Progressed d (record { count = at; idle = false }) (taken f d₀ (length before)) before room
  ran_full l = going_full f d₀ before d at room g.going (omega (arith, g.going.size)) _ refl refl

  -- a turn of the desk, and the line of its answer, put where it fits
  module _ (r : AfterTurn) (h : after_turn r ≡ next_of f d) (line : List ℕ) (hl : line ≡ turn_line (turn_meaning r.answer)) where
    answer_is : turn_meaning r.answer ≡ (turn_of f d).answer
    answer_is = ap (λ (x : After Turned). x.answer) (h ∙ sym (turn_is f d g.sound g.same))

    desk_is : r.desk ≡ (turn_of f d).desk
    desk_is = ap (λ (x : After Turned). x.desk) (h ∙ sym (turn_is f d g.sound g.same))

    line_is : line ≡ turn_line (turn_of f d).answer
    line_is = hl ∙ ap turn_line answer_is

    -- its line does not fit
    pub ran_out : {room' : List ℕ} → Lacking at line room room' → Progressed d (record { count = at; idle = false }) (taken f d₀ (length before)) before room'
    ran_out {room'} p =
        rw p.same
        (going_stops f d₀ before d at room g.going (omega (arith, p.lacks, g.going.size, ap length line_is)) _ refl refl)

    module _ {end : ℕ} {room' : List ℕ} (p : Fitted at line room end room') where
      in_room : at + length line ≤ length before
      in_room = omega (arith, p.fits, g.going.size, g.going.within)

      end_is : end ≡ at + length line
      end_is = p.end_is

      put_is : room' ≡ take at room ++ (line ++ drop (at + length line) room)
      put_is = p.room_is

      -- the loop is further on, as the line has a byte
      pub goes_further : at < end
      goes_further = omega (arith, p.end_is, ap length hl, line_some (turn_meaning r.answer))

      pub goes_on : length d.seats ≡ seat_count → is_idle (turn_meaning r.answer) ≡ false → Loop f before d₀ room' r.desk end
      goes_on z no_idle =
          let q = rw answer_is at no_idle in
          let x = going_on f d₀ before d at room g.going line line_is in_room room' put_is q in
          rw (desk_is, end_is)
          (record {
            sound = sound_out _ (turn_lasts d (sound_in d z g.sound) f);
            same = turn_lengths f f d ∙ g.same;
            going = x;
          })

      -- at Idle it stops
      pub ran_idle : is_idle (turn_meaning r.answer) ≡ true
          → Progressed r.desk (record { count = end; idle = true }) (taken f d₀ (length before)) before room'
      ran_idle is_idle_lem =
          let q = rw answer_is at is_idle_lem in
          rw desk_is
          (going_idle f d₀ before d at room g.going line line_is in_room room' put_is q _ end_is refl)
