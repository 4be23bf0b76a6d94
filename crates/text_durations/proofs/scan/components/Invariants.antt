use Rattle.text_durations.proofs.Going.{Going}
use Rattle.text_durations.proofs.scan.components.Given as goal

abbrev pub invariant-loop-letter : goal.invariant-loop-letter
invariant-loop-letter l = Going l.s l.time l.letters l.initial.t l.t l.letter-index
