use Rattle.calls_asked.specs.Asked.{pair_by}
use Rattle.calls_asked.proofs.forms.pair_form.Goals as goal

pub returns-then-same : goal.returns-then-same
unfolding pair_by
returns-then-same c = simp (← c.two.ensures, c.if-same.true, ← c.same.ensures)

pub returns-then-same-2 : goal.returns-then-same-2
unfolding pair_by
returns-then-same-2 c = simp (← c.two-then-same-2.ensures, c.if-same-2.true, ← c.same-2.ensures, c.if-same.false, ← c.same.ensures)

pub returns-then-same-3 : goal.returns-then-same-3
unfolding pair_by
returns-then-same-3 c = simp (← c.two-then-same-3.ensures, c.if-same-3.true, ← c.same-3.ensures, c.if-same-2.false, ← c.same-2.ensures, c.if-same.false, ← c.same.ensures)

pub returns-then-same-4 : goal.returns-then-same-4
unfolding pair_by
returns-then-same-4 c = simp (← c.two-then-same-4.ensures, c.if-same-4.true, ← c.same-4.ensures, c.if-same-3.false, ← c.same-3.ensures, c.if-same-2.false, ← c.same-2.ensures, c.if-same.false, ← c.same.ensures)

pub returns : goal.returns
unfolding pair_by
returns c = simp (c.if-same-4.false, ← c.same-4.ensures, c.if-same-3.false, ← c.same-3.ensures, c.if-same-2.false, ← c.same-2.ensures, c.if-same.false, ← c.same.ensures)
