use mathlib.Core.Path.{◌∙◌}
use Rattle.operation_arithmetic.proofs.Differences.{moments_less}
use Rattle.operation_quantities.proofs.Spanned.{part_of, spans_in_ticks}
use Rattle.value.proofs.KindParts.{moment_good}
use Rattle.value.proofs.RowLaws.{kinds_apart, kinds_one}
use Rattle.operation_arithmetic.specs.Sums.{less_moment}
use Rattle.operation_arithmetic.proofs.sums.less_moment.Goals as goal

pub returns-then-ne : goal.returns-then-ne
unfolding less_moment
returns-then-ne c = simp (← c.refused.ensures, kinds_apart _ _ c.ne.ensures c.if-ne.true, c.in-Moment.is)

pub instant-requires : goal.instant-requires
instant-requires c = ((moment_good _ c.requires.0 _ _ c.in-Moment.is).1, c.requires.2)

pub in_ticks-requires : goal.in_ticks-requires
in_ticks-requires c = (part_of _ _ c.instant.ensures, part_of _ _ c.instant-in-Moment.ensures)

pub returns-else-ne : goal.returns-else-ne
returns-else-ne c = c.in_ticks.ensures ∙ spans_in_ticks _ _ _ _ c.instant.ensures c.instant-in-Moment.ensures ∙ moments_less _ _ _ _ _ _ (kinds_one _ _ c.ne.ensures c.if-ne.false) c.in-Moment.is

pub returns-in-DayTime : goal.returns-in-DayTime
unfolding less_moment
returns-in-DayTime c = simp (← c.refused-in-DayTime.ensures, c.in-DayTime.is)

pub returns-in-YearMonth : goal.returns-in-YearMonth
unfolding less_moment
returns-in-YearMonth c = simp (← c.refused-in-YearMonth.ensures, c.in-YearMonth.is)
