use Rattle.value.specs.declared.Value.TheVariants as VV
use Rattle.value.specs.declared.Kind.TheVariants as KV
use Rattle.value.specs.declared.DateTime.{DateTime}
use Rattle.value.specs.Kinds.{made}
use mathlib.Core.Path.{ap, ◌∙◌}
use Rattle.value.proofs.DateTime.new.Goals as goal

pub returns : goal.returns
returns c = c.checked.ensures ∙ ap (λ (x : DateTime). made (VV.Moment KV.DateTime x)) c.with_time-d.ensures
