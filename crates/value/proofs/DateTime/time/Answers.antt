use Rattle.value.specs.declared.Value.TheVariants as VV
use Rattle.value.specs.declared.Kind.TheVariants as KV
use Rattle.value.specs.declared.DateTime.{DateTime}
use Rattle.value.specs.Clocks.{with_time}
use Rattle.value.specs.Values.{date_in}
use Rattle.value.specs.Kinds.{made}
use mathlib.Core.Path.{ap, ◌∙◌}
use Rattle.value.proofs.DateTime.time.Goals as goal

pub returns : goal.returns
returns c =
    c.checked.ensures
    ∙ ap (λ (x : DateTime). made (VV.Moment KV.Time x)) c.with_time-d.ensures
    ∙ ap (λ (x : DateTime). made (VV.Moment KV.Time (with_time (date_in x) c.args.second c.args.nanosecond c.args.zone))) c.template-t.ensures
