use Rattle.value.proofs.KindParts.{moment_good, day_time_good, year_month_within}
use Rattle.operation_arithmetic.proofs.sums.sum.Goals as goal

pub moment_plus-requires : goal.moment_plus-requires
moment_plus-requires c = ((moment_good _ c.requires.0 _ _ c.in-Moment.is).1, c.requires.1)

pub day_time_plus-requires : goal.day_time_plus-requires
day_time_plus-requires c = (day_time_good _ c.requires.0 _ c.in-DayTime.is, c.requires.1)

pub year_month_plus-requires : goal.year_month_plus-requires
year_month_plus-requires c = (year_month_within _ c.requires.0 _ c.in-YearMonth.is, c.requires.1)

pub returns-in-Moment : goal.returns-in-Moment
returns-in-Moment c = simp (← c.moment_plus.ensures, c.in-Moment.is)

pub returns-in-DayTime : goal.returns-in-DayTime
returns-in-DayTime c = simp (← c.day_time_plus.ensures, c.in-DayTime.is)

pub returns-in-YearMonth : goal.returns-in-YearMonth
returns-in-YearMonth c = simp (← c.year_month_plus.ensures, c.in-YearMonth.is)
