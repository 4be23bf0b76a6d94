use mathlib.Core.Path.{ap, ◌∙◌}
use Rattle.value_components.specs.Components.{clock_in}
use Rattle.value_components.proofs.SpanParts.{ticks_are, clock_within}
use Rattle.value_components.proofs.FieldsBy.{fields_by}
use Rattle.value_components.proofs.fields_in.Goals as goal

pub clock_in-requires : goal.clock_in-requires
clock_in-requires c = clock_within _ _ c.requires c.clock.ensures

pub returns : goal.returns
returns c = fields_by c.args.kind c.args.d c.parts-own.ensures c.date_field-year.ensures c.date_field-month.ensures c.date_field-day.ensures (c.clock_in.ensures ∙ ap clock_in (ticks_are _ _ c.clock.ensures)) c.clock_field-clock.ensures
