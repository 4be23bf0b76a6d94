use mathlib.Core.Path.{ap, sym, ◌∙◌}
use Rattle.value.specs.Carried.{span_of}
use Rattle.value.proofs.KindParts.{day_time_good}
use Rattle.value_instants.proofs.Within.{plus_forward}
use Rattle.value_instants.proofs.ticks.forward.Goals as goal

pub returns-then-d : goal.returns-then-d
returns-then-d c = rw (c.in-DayTime.is, c.if-d.true) c.span-then-d.ensures

pub size-requires : goal.size-requires
size-requires c = day_time_good _ c.requires _ c.in-DayTime.is

pub returns-in-Moment : goal.returns-in-Moment
returns-in-Moment c = rw c.in-Moment.is c.span.ensures

pub returns-in-YearMonth : goal.returns-in-YearMonth
returns-in-YearMonth c = rw c.in-YearMonth.is c.span-in-YearMonth.ensures

pub returns-else-d : goal.returns-else-d
returns-else-d c = rw c.in-DayTime.is (c.size.ensures ∙ ap span_of (sym (plus_forward _ c.if-d.false)))
