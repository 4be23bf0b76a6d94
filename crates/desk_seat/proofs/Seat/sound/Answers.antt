use native.Mathlib.Omega.{arith}
use Rattle.std.proofs.lemmas.Grind.{common_steps}
use Rattle.basis.specs.Choice.{both, every}
use Rattle.desk_seat.specs.Soundness.{seat_sound}
use Rattle.desk_seat.proofs.Seat.sound.Goals as goal

pub returns-else-self-lt-MOST : goal.returns-else-self-lt-MOST
unfolding seat_sound every both
returns-else-self-lt-MOST c = grind (arith, common_steps)

pub returns-then-self-lt-MOST : goal.returns-then-self-lt-MOST
unfolding seat_sound every both
returns-then-self-lt-MOST c = grind (arith, common_steps)
