use Rattle.value.proofs.KindParts.{moment_good}
use Rattle.operation_adjusting.specs.Adjustment.{value_to}
use Rattle.operation_adjusting.proofs.value_to.Goals as goal

pub moment_to-requires : goal.moment_to-requires
moment_to-requires c = ((moment_good _ c.requires.0 _ _ c.in-Moment.is).1, c.requires.1)

pub returns-in-Moment : goal.returns-in-Moment
unfolding value_to
returns-in-Moment c = simp (← c.moment_to.ensures, c.in-Moment.is)

pub returns-in-DayTime : goal.returns-in-DayTime
unfolding value_to
returns-in-DayTime c = simp (← c.refused.ensures, c.in-DayTime.is)

pub returns-in-YearMonth : goal.returns-in-YearMonth
unfolding value_to
returns-in-YearMonth c = simp (← c.refused-in-YearMonth.ensures, c.in-YearMonth.is)
