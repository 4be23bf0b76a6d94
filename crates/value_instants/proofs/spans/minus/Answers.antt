use Rattle.value.proofs.Spans.{span_is}
use native.Mathlib.Omega.{arith}
use Rattle.value_instants.proofs.spans.minus.Goals as goal

pub returns-then-a-b : goal.returns-then-a-b
returns-then-a-b c = span_is _ _ _ (omega arith) (omega arith)

pub returns : goal.returns
returns c = span_is _ _ _ (omega arith) (omega arith)
