use mathlib.Core.Path.{ap, sym, ◌∙◌}
use Rattle.text_durations.proofs.Amounts.{size_amount}
use Rattle.value.proofs.KindParts.{day_time_good}
use Rattle.text_durations.specs.Spelling.{amount_of}
use Rattle.text_durations.proofs.amount_of.Goals as goal

pub size-size-requires : goal.size-size-requires
size-size-requires c = day_time_good _ c.requires _ c.in-DayTime.is

pub returns-in-Moment : goal.returns-in-Moment
returns-in-Moment c = sym (ap amount_of c.in-Moment.is)

pub returns-in-DayTime : goal.returns-in-DayTime
returns-in-DayTime c = size_amount _ c.size-size.ensures ∙ sym (ap amount_of c.in-DayTime.is)

pub returns-in-YearMonth : goal.returns-in-YearMonth
returns-in-YearMonth c = sym (ap amount_of c.in-YearMonth.is)
