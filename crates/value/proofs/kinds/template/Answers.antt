use mathlib.Core.Path.{ap, sym, ◌∙◌}
use Rattle.value.specs.Rows.{template_of}
use Rattle.value.proofs.kinds.template.Goals as goal

pub returns-in-Date : goal.returns-in-Date
returns-in-Date c = c.day_start.ensures ∙ sym (ap template_of c.in-Date.is)

pub returns-in-Time : goal.returns-in-Time
returns-in-Time c = c.day_start-in-Time.ensures ∙ sym (ap template_of c.in-Time.is)

pub returns-in-DateTime : goal.returns-in-DateTime
returns-in-DateTime c = c.day_start-in-DateTime.ensures ∙ sym (ap template_of c.in-DateTime.is)

pub returns-in-DayTimeDuration : goal.returns-in-DayTimeDuration
returns-in-DayTimeDuration c = c.day_start-in-DayTimeDuration.ensures ∙ sym (ap template_of c.in-DayTimeDuration.is)

pub returns-in-YearMonthDuration : goal.returns-in-YearMonthDuration
returns-in-YearMonthDuration c = c.day_start-in-YearMonthDuration.ensures ∙ sym (ap template_of c.in-YearMonthDuration.is)
