use borrow.Author.Tests.{eq-eqb, ne_eqb}
use Rattle.text_durations.proofs.scan.ended.Goals as goal

pub returns-then-t-from : goal.returns-then-t-from
returns-then-t-from c = simp (eq-eqb _ _ c.if-t-from.true)

pub returns : goal.returns
returns c = simp (ne_eqb _ _ c.if-t-from.false)
