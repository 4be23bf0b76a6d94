use Rattle.value.proofs.KindParts.{day_time_good, year_month_within}
use Rattle.operation_arithmetic.specs.Sums.{sum_of}
use Rattle.operation_arithmetic.proofs.sums.moment_plus.Goals as goal

pub shifted-requires : goal.shifted-requires
shifted-requires c = (c.requires.0, day_time_good _ c.requires.1 _ c.in-DayTime.is)

pub moved-requires : goal.moved-requires
moved-requires c = (c.requires.0, year_month_within _ c.requires.1 _ c.in-YearMonth.is)

pub returns-in-Moment : goal.returns-in-Moment
unfolding sum_of
returns-in-Moment c = simp (← c.refused.ensures, c.in-Moment.is)

pub returns-in-DayTime : goal.returns-in-DayTime
unfolding sum_of
returns-in-DayTime c = simp (← c.shifted.ensures, c.in-DayTime.is)

pub returns-in-YearMonth : goal.returns-in-YearMonth
unfolding sum_of
returns-in-YearMonth c = simp (← c.moved.ensures, c.in-YearMonth.is)
