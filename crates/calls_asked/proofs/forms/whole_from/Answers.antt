use mathlib.Core.Path.{refl}
use Rattle.calls_asked.proofs.Wholes.{no_digits, some_digits}
use Rattle.calls_asked.proofs.forms.whole_from.Goals as goal

pub returns-then-end-at : goal.returns-then-end-at
returns-then-end-at c = (no_digits c.args.s.now c.args.at c.digits-n.result c.digits-n.ensures c.if-end-at.true, refl, c.digits-n.ensures.capped)

pub returns : goal.returns
returns c = (some_digits c.args.s.now c.args.at c.digits-n.result c.digits-n.ensures c.if-end-at.false, refl, c.digits-n.ensures.capped)
