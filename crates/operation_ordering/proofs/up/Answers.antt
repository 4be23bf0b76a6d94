use Rattle.value.proofs.KindParts.{moment_good, day_time_good}
use Rattle.operation_ordering.specs.Order.{up}
use Rattle.operation_ordering.proofs.up.Goals as goal

pub instant-requires : goal.instant-requires
instant-requires c = ((moment_good _ c.requires.0 _ _ c.in-Moment.is).1, c.requires.1)

pub plus_ticks-requires : goal.plus_ticks-requires
plus_ticks-requires c = day_time_good _ c.requires.0 _ c.in-DayTime.is

pub returns-in-Moment : goal.returns-in-Moment
unfolding up
returns-in-Moment c = simp (← c.instant.ensures, c.in-Moment.is)

pub returns-in-DayTime : goal.returns-in-DayTime
unfolding up
returns-in-DayTime c = simp (← c.plus_ticks.ensures, c.in-DayTime.is)

pub returns-in-YearMonth : goal.returns-in-YearMonth
unfolding up
returns-in-YearMonth c = simp (← c.span.ensures, ← c.plus_half.ensures, c.in-YearMonth.is)
