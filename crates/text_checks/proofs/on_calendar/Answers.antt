use mathlib.Core.Path.{◌∙◌}
use Rattle.basis.proofs.Tests.{no, yes}
use Rattle.text_checks.specs.Reading.{on_calendar}
use Rattle.text_checks.proofs.on_calendar.Goals as goal

pub returns-then-not-date_ok : goal.returns-then-not-date_ok
unfolding on_calendar
returns-then-not-date_ok c = c.refused.ensures ∙ simp (no c.date_ok.ensures c.if-not-date_ok.true)

pub returns-then-not-clock_good : goal.returns-then-not-clock_good
unfolding on_calendar
returns-then-not-clock_good c = c.refused-then-not-clock_good.ensures ∙ simp (no c.clock_good.ensures c.if-not-clock_good.true, yes c.date_ok.ensures c.if-not-date_ok.false)

pub returns-then-not-zone_ok : goal.returns-then-not-zone_ok
unfolding on_calendar
returns-then-not-zone_ok c = c.refused-then-not-zone_ok.ensures ∙ simp (no c.zone_ok.ensures c.if-not-zone_ok.true, yes c.clock_good.ensures c.if-not-clock_good.false, yes c.date_ok.ensures c.if-not-date_ok.false)

pub clock-requires : goal.clock-requires
clock-requires c = (yes c.date_ok.ensures c.if-not-date_ok.false, yes c.clock_good.ensures c.if-not-clock_good.false, c.requires)

pub returns : goal.returns
unfolding on_calendar
returns c = c.clock.ensures ∙ simp (← c.zone_is-zone.ensures, yes c.zone_ok.ensures c.if-not-zone_ok.false, yes c.clock_good.ensures c.if-not-clock_good.false, yes c.date_ok.ensures c.if-not-date_ok.false)
