use native.Mathlib.Nat.{le_of_lt}
use borrow.Author.Tests.{ltb-true, ltb-false}
use mathlib.Core.Path.{sym, ◌∙◌}
use Rattle.operation_quantities.proofs.Spanned.{part_of}
use Rattle.operation_quantities.proofs.Bounded.{ticks_below, ticks_above}
use Rattle.operation_quantities.proofs.results.in_ticks.Goals as goal

pub minus-requires : goal.minus-requires
minus-requires c = (c.requires.1, c.requires.0, le_of_lt (ltb-true _ _ (sym c.is_less.ensures ∙ c.if-is_less.true)))

pub day_time-requires : goal.day_time-requires
day_time-requires c = part_of _ _ c.minus.ensures

pub returns-then-is_less : goal.returns-then-is_less
returns-then-is_less c = c.day_time.ensures ∙ ticks_below _ _ _ (sym c.is_less.ensures ∙ c.if-is_less.true) c.minus.ensures

pub minus-requires-2 : goal.minus-requires-2
minus-requires-2 c = (c.requires.0, c.requires.1, ltb-false _ _ (sym c.is_less.ensures ∙ c.if-is_less.false))

pub day_time-requires-2 : goal.day_time-requires-2
day_time-requires-2 c = part_of _ _ c.minus-2.ensures

pub returns : goal.returns
returns c = c.day_time-2.ensures ∙ ticks_above _ _ _ (sym c.is_less.ensures ∙ c.if-is_less.false) c.minus-2.ensures
