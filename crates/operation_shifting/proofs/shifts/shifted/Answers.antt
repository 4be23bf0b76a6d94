use mathlib.Core.Path.{sym, ◌∙◌}
use Rattle.operation_shifting.proofs.Steps.{time_wrapped, no_shift}
use Rattle.operation_shifting.specs.Shifts.{shifted}
use Rattle.operation_shifting.proofs.shifts.shifted.Goals as goal

pub returns-then-is_dated : goal.returns-then-is_dated
unfolding shifted
returns-then-is_dated c = simp (← c.local_shifted.ensures, c.if-is_dated.true, ← c.is_dated.ensures)

pub returns-then-is_clocked : goal.returns-then-is_clocked
returns-then-is_clocked c = time_wrapped _ _ _ _ _ (sym c.is_dated.ensures ∙ c.if-is_dated.false) (sym c.is_clocked.ensures ∙ c.if-is_clocked.true) c.wrapped.ensures

pub returns : goal.returns
returns c = c.refused.ensures ∙ no_shift _ _ _ _ (sym c.is_dated.ensures ∙ c.if-is_dated.false) (sym c.is_clocked.ensures ∙ c.if-is_clocked.false)
