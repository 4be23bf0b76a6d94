use Rattle.value.proofs.Looking.{Looking}
use Rattle.value.proofs.kinds.parts_in.Given as goal

abbrev pub invariant-loop-p : goal.invariant-loop-p
invariant-loop-p l = Looking l.letters l.found l.p-index
