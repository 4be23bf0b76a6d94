use Rattle.value.proofs.Spans.{span_is}
use native.Mathlib.Omega.{arith}
use Rattle.value_instants.proofs.spans.plus.Goals as goal

pub returns-then-part-lt-TICKS : goal.returns-then-part-lt-TICKS
returns-then-part-lt-TICKS c = span_is _ _ _ (omega arith) (omega arith)

pub returns : goal.returns
returns c = span_is _ _ _ (omega arith) (omega arith)
