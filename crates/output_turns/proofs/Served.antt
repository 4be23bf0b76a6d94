-- The turn of a desk in one variable: the next held seat is served and stored, and that is the turn.
use mathlib.Core.Path.{◌≡◌, refl, sym}
use mathlib.Core.Bool.{true, false}
use mathlib.Core.Logic.{⊎_elim}
use Prim.Native.Nat.{ℕ, ◌≤◌}
use native.Mathlib.Omega.{arith}
use lib.ListN.{length}
use Rattle.std.specs.Prelude.{Some, None}
use Rattle.basis.specs.Answer.{gives}
use Rattle.desk_seat.specs.Files.{Files}
use Rattle.desk_seat.specs.Bounds.{max_timetable}
use Rattle.desk_seat.specs.Conditions.{Result, hit, miss, unreadable}
use Rattle.desk_seat.specs.Answers.{turn_meaning}
use Rattle.desk_seat.specs.Soundness.{seat_sound}
use Rattle.desk_seat.specs.Serving.{onward_from, seat_result, judged_as, serve_of}
use Rattle.desk_seat.specs.Carried.{Steps}
use Rattle.desk_seat.specs.declared.Seat.{Seat}
use Rattle.desk_seat.specs.declared.Spot.{Spot}
use Rattle.desk_seat.specs.declared.TurnAnswer.{TurnAnswer}
use Rattle.desk_seat.specs.declared.TurnAnswer.TheVariants as TV
use Rattle.desk_seat.proofs.Serving.{line_or_done, serve_line, serve_done}
use Rattle.desk.specs.Answers.{after_turn}
use Rattle.desk.specs.Seats.{seat_at}
use Rattle.desk.specs.Soundness.{sound_of}
use Rattle.desk.specs.Desk.{next_of, have_lengths}
use Rattle.desk.specs.Carried.{held_found}
use Rattle.desk.specs.declared.Desk.{Desk}
use Rattle.desk.specs.declared.AfterTurn.{AfterTurn}
use Rattle.desk.proofs.Found.{found_seat, found_held, found_next, none_next}
use Rattle.desk.proofs.Lengths.{lengths_same}
use Rattle.desk.proofs.Soundness.{sound_length, sound_seat}
use Rattle.desk_laws.proofs.Sound.{replaced}
use Rattle.output_turns.specs.Turns.{is_idle}

-- the desk with a served seat stored, and the answer
abbrev pub stored : Desk → ℕ → Seat → TurnAnswer → AfterTurn
stored d i s a = record { desk = replaced d i s i d.issued; answer = a }

judged_some : (to : Spot) (s : Seat) (v : Result) → is_idle (gives (judged_as to s v).answer) ≡ false
judged_some to s hit = refl
judged_some to s miss = refl
judged_some to s (unreadable r) = refl

served_some : (f : Files) (s : Seat) → is_idle (gives (serve_of f s).answer) ≡ false
served_some f s =
    ⊎_elim (λ b. rw (serve_line f s b) (judged_some (onward_from f s) s (seat_result f s))) (λ b. rw (serve_done f s b) refl)
    (line_or_done f s)

module _ (f : Files) (d : Desk) where
  -- no seat is held
  pub idle_next : None ≡ held_found d → after_turn (record { desk = d; answer = TV.Idle }) ≡ next_of f d
  idle_next e = sym (none_next d e f)

  module _ (i : ℕ) (e : Some i ≡ held_found d) where
    -- the seat found can be served
    pub found_sound : sound_of d ≡ true → have_lengths f d ≡ true
        → ((k : ℕ) × (seat_sound k (length f.timetable) (seat_at d i) ≡ true)) × (length f.timetable ≤ max_timetable)
    found_sound h l =
        let same = lengths_same f d l in
        ((d.issued, rw same (sound_seat d h i (found_seat d i e) (found_held d i e))), omega (arith, sound_length d h, same))

    -- stored, it is the turn, and that is not Idle
    module _ (s : Seat) (a : TurnAnswer) (x : Steps s a (serve_of f (seat_at d i))) where
      pub stored_next : after_turn (stored d i s a) ≡ next_of f d
      stored_next = rw (x.seat, x.answer) (sym (found_next d i e f))

      pub stored_some : is_idle (turn_meaning a) ≡ false
      stored_some = rw x.answer (served_some f (seat_at d i))
