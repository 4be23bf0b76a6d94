use mathlib.Core.Path.{◌∙◌}
use Rattle.numerals.proofs.Stripping.{strip_none, strip_zero, strip_kept}
use Rattle.numerals.proofs.+strip.Goals.{else-k-gt0-via-then-k-gt0+else-n-eq0, else-k-gt0-via-else-k-gt0}
use Rattle.numerals.proofs.+strip.Goals as goal

pub returns-then-n-eq0 : goal.returns-then-n-eq0
returns-then-n-eq0 t c = c.strip.ensures ∙ strip_zero c.args.n c.args.k c.if-k-gt0.true c.if-n-eq0.true

pub returns-else-k-gt0 : goal.returns-else-k-gt0
returns-else-k-gt0 t c = elim c.else-k-gt0.branch [
  | else-k-gt0-via-then-k-gt0+else-n-eq0 w ↦ strip_kept c.args.n c.args.k w.if-n-eq0.false
  | else-k-gt0-via-else-k-gt0 w ↦ strip_none c.args.n c.args.k w.if-k-gt0.false
]
