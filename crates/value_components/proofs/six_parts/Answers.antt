use mathlib.Core.Path.{ap, ◌∙◌}
use Rattle.value_components.specs.Components.{signed_number}
use Rattle.value_components.proofs.SignedNumbers.{kept_number}
use Rattle.value_components.proofs.SpanParts.{days_in, hours_left, minutes_left, seconds_left, part_left}
use Rattle.value_components.proofs.six_parts.Goals as goal

pub returns : goal.returns
returns c =
    let a = c.args in
    let h = c.requires.1 in
    λ i.
    record {
      years = kept_number _ _ c.signed-years.type_inv c.signed-years.ensures i;
      months = kept_number _ _ c.signed-months.type_inv c.signed-months.ensures i;
      days = (kept_number _ _ c.signed-days.type_inv c.signed-days.ensures ∙ ap (signed_number a.negative) (days_in a.t.seconds a.t.part h)) i;
      hours = (kept_number _ _ c.signed-hours.type_inv c.signed-hours.ensures ∙ ap (signed_number a.negative) (hours_left a.t.seconds a.t.part h)) i;
      minutes = (kept_number _ _ c.signed-minutes.type_inv c.signed-minutes.ensures ∙ ap (signed_number a.negative) (minutes_left a.t.seconds a.t.part h)) i;
      seconds = (kept_number _ _ c.signed-seconds.type_inv c.signed-seconds.ensures ∙ ap (signed_number a.negative) (seconds_left a.t.seconds a.t.part h)) i;
      part = (kept_number _ _ c.signed-part.type_inv c.signed-part.ensures ∙ ap (signed_number a.negative) (part_left a.t.seconds a.t.part h)) i;
    }
