use mathlib.Core.Path.{refl, sym, ◌∙◌}
use Rattle.basis.specs.Choice.{both}
use Rattle.desk.specs.Soundness.{sound_at}
use Rattle.desk.proofs.Found.{numbered_here}
use Rattle.desk.proofs.Desk.sound_at.Goals as goal

pub returns-then-not-seat : goal.returns-then-not-seat
unfolding sound_at
returns-then-not-seat c = rw c.if-not-seat.true refl

pub returns-then-eq : goal.returns-then-eq
unfolding sound_at both
returns-then-eq c =
    let e = sym (numbered_here _ c.requires.0 c.seat_of.ensures) ∙ sym c.if-eq.ensures in
    simp (c.if-not-seat.false, e) c.sound.ensures

pub returns-else-eq : goal.returns-else-eq
unfolding sound_at both
returns-else-eq c =
    let e = sym (numbered_here _ c.requires.0 c.seat_of.ensures) ∙ sym c.if-eq.ensures in
    simp (c.if-not-seat.false, e) c.if-eq.false
