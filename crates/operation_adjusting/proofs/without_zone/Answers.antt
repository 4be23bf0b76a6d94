use Rattle.operation_adjusting.specs.Adjustment.{without_zone}
use Rattle.operation_adjusting.proofs.without_zone.Goals as goal

pub returns-in-Moment : goal.returns-in-Moment
unfolding without_zone
returns-in-Moment c = simp (← c.with_zone.ensures, c.in-Moment.is)

pub returns-in-DayTime : goal.returns-in-DayTime
unfolding without_zone
returns-in-DayTime c = simp (← c.refused.ensures, c.in-DayTime.is)

pub returns-in-YearMonth : goal.returns-in-YearMonth
unfolding without_zone
returns-in-YearMonth c = simp (← c.refused-in-YearMonth.ensures, c.in-YearMonth.is)
