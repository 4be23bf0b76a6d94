use Rattle.text_layouts.proofs.Pieces.{Grown}
use Rattle.text_layouts.proofs.writing.parts.Given as goal

abbrev pub invariant-loop-p : goal.invariant-loop-p
invariant-loop-p l = Grown l.layout l.d l.text l.p-index
