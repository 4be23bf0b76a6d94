use mathlib.Core.Path.{sym}
use Rattle.value_components.specs.Components.{date_field}
use Rattle.value_components.proofs.date_field.Goals as goal

pub returns-then-own : goal.returns-then-own
returns-then-own c = sym (λ i. date_field (c.if-own.true i) c.args.n)
