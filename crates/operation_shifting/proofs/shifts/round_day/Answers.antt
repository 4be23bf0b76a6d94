use native.Mathlib.Omega.{arith}
use Rattle.value.proofs.Spans.{span_is}
use borrow.Author.Rules.{rules}
use Rattle.operation_shifting.proofs.shifts.round_day.Goals as goal

pub returns : goal.returns
returns c = span_is _ _ _ (search rules) (omega arith)
