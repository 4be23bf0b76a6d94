use Rattle.value_components.proofs.SpanParts.{ticks_are, size_within}
use native.Mathlib.Omega.{arith}
use Rattle.value.proofs.KindParts.{moment_good, day_time_good, year_month_within}
use Rattle.value.proofs.ClockLaws.{ticks_to}
use Rattle.value.proofs.Good as Good
use Rattle.value_components.specs.Components.{components_of, of_moment, of_duration, lasting}
use Rattle.basis.specs.Answer.{gives}
use Rattle.value_components.proofs.PartsGiven.{parts_given}
use mathlib.Core.Path.{ap, ◌∙◌}
use Rattle.basis.proofs.Tests.{no, yes as good}
use Rattle.value_components.proofs.of_value.Goals as goal

pub returns-then-not-value_ok : goal.returns-then-not-value_ok
unfolding components_of
returns-then-not-value_ok c = simp (c.numbered.ensures, no c.value_ok.ensures c.if-not-value_ok.true)

pub fields_in-requires : goal.fields_in-requires
fields_in-requires c = (Good.good _ (moment_good _ (good c.value_ok.ensures c.if-not-value_ok.false) _ _ c.in-Moment.is).1).time

pub size-requires : goal.size-requires
size-requires c = day_time_good _ (good c.value_ok.ensures c.if-not-value_ok.false) _ c.in-DayTime.is

pub six_parts-requires : goal.six_parts-requires
six_parts-requires c = let h = size_within _ _ (ticks_to _ (day_time_good _ (good c.value_ok.ensures c.if-not-value_ok.false) _ c.in-DayTime.is)) c.size.ensures in (omega arith, h.0, h.1)

pub six_parts-requires-in-YearMonth : goal.six_parts-requires-in-YearMonth
six_parts-requires-in-YearMonth c = let h = year_month_within _ (good c.value_ok.ensures c.if-not-value_ok.false) _ c.in-YearMonth.is in let k = size_within _ 0 (omega arith) c.span.ensures in (omega arith, k.0, k.1)

pub returns-in-Moment : goal.returns-in-Moment
returns-in-Moment c = (λ i. gives (of_moment (c.fields_in.ensures i))) ∙ parts_given _ _ (good c.value_ok.ensures c.if-not-value_ok.false) c.in-Moment.is

pub returns-in-DayTime : goal.returns-in-DayTime
returns-in-DayTime c = (λ i. gives (of_duration ((c.six_parts.ensures ∙ ap (lasting c.in-DayTime.d.negative 0) (ticks_are _ _ c.size.ensures)) i))) ∙ parts_given _ _ (good c.value_ok.ensures c.if-not-value_ok.false) c.in-DayTime.is

pub returns-in-YearMonth : goal.returns-in-YearMonth
returns-in-YearMonth c = (λ i. gives (of_duration ((c.six_parts-in-YearMonth.ensures ∙ ap (lasting c.in-YearMonth.d.negative c.in-YearMonth.d.months) (ticks_are _ 0 c.span.ensures)) i))) ∙ parts_given _ _ (good c.value_ok.ensures c.if-not-value_ok.false) c.in-YearMonth.is
