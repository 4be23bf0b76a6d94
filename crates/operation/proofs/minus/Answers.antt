use mathlib.Core.Path.{ap, ◌∙◌}
use Rattle.value.specs.Values.{ok_offset}
use Rattle.value.specs.declared.Offset.{Offset}
use Rattle.operation_arithmetic.specs.Sums.{minus_in}
use Rattle.value_instants.proofs.Instants.{utc_good}
use Rattle.operation.proofs.minus.Goals as goal

pub minus_in-requires : goal.minus_in-requires
minus_in-requires c = ap ok_offset c.utc.ensures ∙ utc_good

pub returns : goal.returns
returns c =
    c.minus_in.ensures ∙ ap (λ (o : Offset). minus_in o c.args.a c.args.b) c.utc.ensures
