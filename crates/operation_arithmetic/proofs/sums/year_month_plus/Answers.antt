use Rattle.value.proofs.KindParts.{moment_good}
use Rattle.operation_arithmetic.specs.Sums.{sum_of}
use Rattle.operation_arithmetic.proofs.sums.year_month_plus.Goals as goal

pub moved-requires : goal.moved-requires
moved-requires c = ((moment_good _ c.requires.1 _ _ c.in-Moment.is).1, c.requires.0)

pub returns-in-Moment : goal.returns-in-Moment
unfolding sum_of
returns-in-Moment c = simp (← c.moved.ensures, c.in-Moment.is)

pub returns-in-DayTime : goal.returns-in-DayTime
unfolding sum_of
returns-in-DayTime c = simp (← c.refused.ensures, c.in-DayTime.is)

pub returns-in-YearMonth : goal.returns-in-YearMonth
unfolding sum_of
returns-in-YearMonth c = simp (← c.months_sum.ensures, c.in-YearMonth.is)
