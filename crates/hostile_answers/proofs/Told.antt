-- The line of any turn can be written: that of a sound desk's has its numbers within their bounds, and a refused one has
-- none but the refusal's.
use mathlib.Core.Path.{◌≡◌, refl, ap, ◌∙◌}
use mathlib.Core.Bool.{Bool, true, false}
use Prim.Native.Nat.{ℕ}
use lib.ListN.{length}
use Rattle.basis.specs.Answer.{refuses}
use Rattle.value.specs.Refusals.{wrong_timetable, not_sound}
use Rattle.desk_seat.specs.Files.{Files}
use Rattle.desk_seat.specs.Answers.{Turned, turn_meaning}
use Rattle.desk.specs.Bounds.{seat_count}
use Rattle.desk.specs.Answers.{After, after_turn}
use Rattle.desk.specs.Soundness.{sound_of}
use Rattle.desk.specs.Desk.{refused, have_lengths, turn_of}
use Rattle.desk.specs.declared.Desk.{Desk}
use Rattle.desk.specs.declared.AfterTurn.{AfterTurn}
use Rattle.desk_laws.proofs.Sound.{sound_in}
use Rattle.output_lines.specs.Carried.{Within}
use Rattle.output_turns.proofs.Bounded.{next_within}

refused_within : (d : Desk) (n : ℕ) (r : AfterTurn) → after_turn r ≡ refused d n → Within (turn_meaning r.answer)
refused_within d n r h =
    let e : turn_meaning r.answer ≡ refuses n = ap (λ (x : After Turned). x.answer) h in
    rw e tt

pub turn_within : (f : Files) (d : Desk) (r : AfterTurn) → length d.seats ≡ seat_count → after_turn r ≡ turn_of f d → Within (turn_meaning r.answer)
unfolding turn_of
turn_within f d r z h = go (sound_of d) (have_lengths f d) refl refl
  where
    go : (a b : Bool) → sound_of d ≡ a → have_lengths f d ≡ b → Within (turn_meaning r.answer)
    go false b e l = refused_within d not_sound r (h ∙ rw e)
    go true false e l = refused_within d wrong_timetable r (h ∙ rw (e, l))
    go true true e l = next_within f d (sound_in d z e) l r (h ∙ rw (e, l))
