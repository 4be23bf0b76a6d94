use Rattle.line_fields.proofs.Within.{Passed}
use Rattle.line_fields.proofs.numbers.read.Given as goal

abbrev pub invariant-loop-b : goal.invariant-loop-b
invariant-loop-b l = Passed l.s l.most l.b-index l.n
