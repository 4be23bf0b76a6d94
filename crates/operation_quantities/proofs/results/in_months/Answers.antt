use mathlib.Core.Path.{◌∙◌}
use Rattle.operation_quantities.proofs.Bounded.{months_below, months_above}
use Rattle.operation_quantities.proofs.results.in_months.Goals as goal

pub returns-then-p-q : goal.returns-then-p-q
returns-then-p-q c = c.year_month.ensures ∙ months_below _ _ c.if-p-q.true

pub returns : goal.returns
returns c = c.year_month-2.ensures ∙ months_above _ _ c.if-p-q.false
