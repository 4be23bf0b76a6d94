use Rattle.value.specs.declared.Value.TheVariants.{DayTime}
use mathlib.Core.Path.{ap, sym, ◌∙◌}
use Rattle.operation_quantities.proofs.Spanned.{part_of, spans_in_ticks}
use Rattle.value.proofs.KindParts.{moment_good, day_time_good}
use Rattle.operation_arithmetic.specs.Sums.{sum_of}
use Rattle.operation_arithmetic.proofs.sums.day_time_plus.Goals as goal

pub shifted-requires : goal.shifted-requires
shifted-requires c = ((moment_good _ c.requires.1 _ _ c.in-Moment.is).1, c.requires.0)

pub plus_halves-requires : goal.plus_halves-requires
plus_halves-requires c = (c.requires.0, day_time_good _ c.requires.1 _ c.in-DayTime.is)

pub minus_halves-requires : goal.minus_halves-requires
minus_halves-requires c = (c.requires.0, day_time_good _ c.requires.1 _ c.in-DayTime.is)

pub in_ticks-requires : goal.in_ticks-requires
in_ticks-requires c = (part_of _ _ c.plus_halves.ensures, part_of _ _ c.minus_halves.ensures)

pub returns-in-Moment : goal.returns-in-Moment
unfolding sum_of
returns-in-Moment c = simp (← c.shifted.ensures, c.in-Moment.is)

pub returns-in-DayTime : goal.returns-in-DayTime
unfolding sum_of
returns-in-DayTime c = c.in_ticks.ensures ∙ spans_in_ticks _ _ _ _ c.plus_halves.ensures c.minus_halves.ensures ∙ ap (sum_of (DayTime c.args.t)) (sym c.in-DayTime.is)

pub returns-in-YearMonth : goal.returns-in-YearMonth
unfolding sum_of
returns-in-YearMonth c = simp (← c.refused.ensures, c.in-YearMonth.is)
