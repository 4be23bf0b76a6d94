use mathlib.Core.Path.{◌∙◌}
use Rattle.text_checks.proofs.Ways.{span_within, on_clock, at_end}
use Rattle.text_checks.proofs.clock.Goals as goal

pub returns-then-c-eq-DAY_END : goal.returns-then-c-eq-DAY_END
returns-then-c-eq-DAY_END c = c.next_day.ensures ∙ at_end c.args.c c.if-c-eq-DAY_END.true c.args.kind c.args.d c.args.zone

pub at-requires : goal.at-requires
at-requires c = span_within c.args.c c.if-c-eq-DAY_END.false c.requires.1 c.requires.2

pub returns : goal.returns
returns c = c.moment.ensures ∙ on_clock c.args.c c.if-c-eq-DAY_END.false c.args.kind c.args.d c.args.zone c.at.ensures
