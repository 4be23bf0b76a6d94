use Rattle.value.specs.Kinds.{ok_value}
use Rattle.value.specs.declared.Value.TheVariants as VV
use Rattle.value.specs.declared.YearMonth as Y
use Rattle.value.specs.declared.DayTime as D
use mathlib.Core.Path.{ap, ◌∙◌}
use Rattle.operation_arithmetic.proofs.Opposites.{opposite_ok, opposite_months_ok}
use Rattle.value.proofs.KindParts.{moment_good, day_time_good, year_month_good}
use Rattle.operation_arithmetic.specs.Sums.{difference_in}
use Rattle.operation_arithmetic.proofs.sums.difference.Goals as goal

pub less_moment-requires : goal.less_moment-requires
less_moment-requires c = (c.requires.0, (moment_good _ c.requires.1 _ _ c.in-Moment.is).1, c.requires.2)

pub opposite-requires : goal.opposite-requires
opposite-requires c = day_time_good _ c.requires.1 _ c.in-DayTime.is

pub sum-requires : goal.sum-requires
sum-requires c = (c.requires.0, ap (λ (x : D.DayTime). ok_value (VV.DayTime x)) c.opposite.ensures ∙ opposite_ok _ (day_time_good _ c.requires.1 _ c.in-DayTime.is))

pub sum-requires-in-YearMonth : goal.sum-requires-in-YearMonth
sum-requires-in-YearMonth c = (c.requires.0, ap (λ (x : Y.YearMonth). ok_value (VV.YearMonth x)) c.opposite_months.ensures ∙ opposite_months_ok _ (year_month_good _ c.requires.1 _ c.in-YearMonth.is))

pub returns-in-Moment : goal.returns-in-Moment
unfolding difference_in
returns-in-Moment c = simp (← c.less_moment.ensures, c.in-Moment.is)

pub returns-in-DayTime : goal.returns-in-DayTime
unfolding difference_in
returns-in-DayTime c = simp (← c.sum.ensures, ← c.opposite.ensures, c.in-DayTime.is)

pub returns-in-YearMonth : goal.returns-in-YearMonth
unfolding difference_in
returns-in-YearMonth c = simp (← c.sum-in-YearMonth.ensures, ← c.opposite_months.ensures, c.in-YearMonth.is)
