use mathlib.Core.Path.{sym}
use Rattle.value_components.specs.Components.{clock_field}
use Rattle.value_components.proofs.clock_field.Goals as goal

pub returns-then-own : goal.returns-then-own
returns-then-own c = sym (λ i. clock_field (c.if-own.true i) c.args.c)
