use Rattle.value.proofs.KindParts.{day_time_good}
use Rattle.operation_arithmetic.specs.Products.{product_of}
use Rattle.operation_arithmetic.proofs.products.product.Goals as goal

pub day_time_times-requires : goal.day_time_times-requires
day_time_times-requires c = (day_time_good _ c.requires.0 _ c.in-DayTime.is, c.requires.1)

pub returns-in-Moment : goal.returns-in-Moment
unfolding product_of
returns-in-Moment c = simp (← c.refused.ensures, c.in-Moment.is)

pub returns-in-DayTime : goal.returns-in-DayTime
unfolding product_of
returns-in-DayTime c = simp (← c.day_time_times.ensures, c.in-DayTime.is)

pub returns-in-YearMonth : goal.returns-in-YearMonth
unfolding product_of
returns-in-YearMonth c = simp (← c.year_month_times.ensures, c.in-YearMonth.is)
