use Prim.Native.Nat.{◌-◌}
use lib.ListN.{length}
use Rattle.desk_seat.specs.Files.{over}
use Rattle.output_turns.proofs.Rounds.{Loop}
use Rattle.output_turns.proofs.take_turns.Given as goal

abbrev pub invariant-loop-count : goal.invariant-loop-count
invariant-loop-count l = Loop (over l.t) l.initial.room l.initial.desk l.room l.desk l.count

abbrev pub decreases-loop-count : goal.decreases-loop-count
decreases-loop-count l = length l.initial.room - l.count
