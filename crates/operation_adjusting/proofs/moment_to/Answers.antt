use Rattle.value.proofs.KindParts.{day_time_good}
use Rattle.operation_adjusting.specs.Adjustment.{moment_to}
use Rattle.operation_adjusting.proofs.moment_to.Goals as goal

pub adjusted_to-requires : goal.adjusted_to-requires
adjusted_to-requires c = (c.requires.0, day_time_good _ c.requires.1 _ c.in-DayTime.is)

pub returns-in-Moment : goal.returns-in-Moment
unfolding moment_to
returns-in-Moment c = simp (← c.refused.ensures, c.in-Moment.is)

pub returns-in-DayTime : goal.returns-in-DayTime
unfolding moment_to
returns-in-DayTime c = simp (← c.adjusted_to.ensures, c.in-DayTime.is)

pub returns-in-YearMonth : goal.returns-in-YearMonth
unfolding moment_to
returns-in-YearMonth c = simp (← c.refused-in-YearMonth.ensures, c.in-YearMonth.is)
