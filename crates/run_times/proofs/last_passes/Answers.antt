use mathlib.Core.Path.{ap, ◌∙◌}
use Rattle.value_instants.specs.Ticks.{past_years}
use Rattle.value.proofs.Spans.{has_ticks}
use Rattle.run_times.specs.Carried.{span_times}
use Rattle.run_times.proofs.Passing as laws
use Rattle.run_times.proofs.last_passes.Goals as goal

pub past_years-requires : goal.past_years-requires
past_years-requires c = (has_ticks c.occurrence-at.result _ c.occurrence-at.ensures).part

pub returns : goal.returns
returns c =
    c.past_years.ensures
    ∙ ap past_years (has_ticks c.occurrence-at.result _ c.occurrence-at.ensures).ticks
    ∙ laws.last_passes (span_times c.args.r) c.last_place-n.result c.last_place-n.ensures
