use Rattle.value.specs.declared.Value.TheVariants as VV
use Rattle.value.specs.declared.DayTime.{DayTime}
use Rattle.value.specs.Kinds.{made}
use mathlib.Core.Path.{ap, ◌∙◌}
use Rattle.value.proofs.DayTime.new.Goals as goal

pub returns : goal.returns
returns c = c.checked.ensures ∙ ap (λ (x : DayTime). made (VV.DayTime x)) c.with_size.ensures
