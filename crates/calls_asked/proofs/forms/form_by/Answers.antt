use Rattle.calls_asked.specs.Asked.{form_by}
use Rattle.calls_asked.proofs.forms.form_by.Goals as goal

pub returns-then-same : goal.returns-then-same
unfolding form_by
returns-then-same c = simp (← c.one.ensures, c.if-same.true, ← c.same.ensures)

pub returns-then-same-2 : goal.returns-then-same-2
unfolding form_by
returns-then-same-2 c = simp (← c.one-then-same-2.ensures, c.if-same-2.true, ← c.same-2.ensures, c.if-same.false, ← c.same.ensures)

pub returns-then-same-3 : goal.returns-then-same-3
unfolding form_by
returns-then-same-3 c = simp (← c.one-then-same-3.ensures, c.if-same-3.true, ← c.same-3.ensures, c.if-same-2.false, ← c.same-2.ensures, c.if-same.false, ← c.same.ensures)

pub returns-then-same-4 : goal.returns-then-same-4
unfolding form_by
returns-then-same-4 c = simp (← c.product.ensures, c.if-same-4.true, ← c.same-4.ensures, c.if-same-3.false, ← c.same-3.ensures, c.if-same-2.false, ← c.same-2.ensures, c.if-same.false, ← c.same.ensures)

pub returns-then-same-5 : goal.returns-then-same-5
unfolding form_by
returns-then-same-5 c = simp (← c.cast.ensures, c.if-same-5.true, ← c.same-5.ensures, c.if-same-4.false, ← c.same-4.ensures, c.if-same-3.false, ← c.same-3.ensures, c.if-same-2.false, ← c.same-2.ensures, c.if-same.false, ← c.same.ensures)

pub returns : goal.returns
unfolding form_by
returns c = simp (← c.pair_form.ensures, c.if-same-5.false, ← c.same-5.ensures, c.if-same-4.false, ← c.same-4.ensures, c.if-same-3.false, ← c.same-3.ensures, c.if-same-2.false, ← c.same-2.ensures, c.if-same.false, ← c.same.ensures)
