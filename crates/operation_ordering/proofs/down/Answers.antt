use Rattle.value.proofs.KindParts.{day_time_good}
use Rattle.operation_ordering.specs.Order.{down}
use Rattle.operation_ordering.proofs.down.Goals as goal

pub minus_ticks-requires : goal.minus_ticks-requires
minus_ticks-requires c = day_time_good _ c.requires _ c.in-DayTime.is

pub returns-in-Moment : goal.returns-in-Moment
unfolding down
returns-in-Moment c = simp (← c.span.ensures, c.in-Moment.is)

pub returns-in-DayTime : goal.returns-in-DayTime
unfolding down
returns-in-DayTime c = simp (← c.minus_ticks.ensures, c.in-DayTime.is)

pub returns-in-YearMonth : goal.returns-in-YearMonth
unfolding down
returns-in-YearMonth c = simp (← c.span-in-YearMonth.ensures, ← c.minus_half.ensures, c.in-YearMonth.is)
