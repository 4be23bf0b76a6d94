use mathlib.Core.Path.{ap, ◌∙◌}
use Rattle.value.specs.Values.{ok_offset}
use Rattle.value.specs.declared.Offset.{Offset}
use Rattle.operation_ordering.specs.Order.{order_in}
use Rattle.value_instants.proofs.Instants.{utc_good}
use Rattle.operation.proofs.compare.Goals as goal

pub compare_in-requires : goal.compare_in-requires
compare_in-requires c = ap ok_offset c.utc.ensures ∙ utc_good

pub returns : goal.returns
returns c =
    c.compare_in.ensures ∙ ap (λ (o : Offset). order_in o c.args.a c.args.b) c.utc.ensures
