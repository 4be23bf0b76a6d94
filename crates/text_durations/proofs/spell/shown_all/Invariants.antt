use Rattle.text_durations.proofs.Written.{Spelling}
use Rattle.text_durations.proofs.spell.shown_all.Given as goal

abbrev pub invariant-loop-letter : goal.invariant-loop-letter
invariant-loop-letter l = Spelling l.time l.letters l.initial.left l.ticks l.initial.text l.text l.left l.letter-index
