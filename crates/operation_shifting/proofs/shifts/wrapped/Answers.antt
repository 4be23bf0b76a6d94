use native.Mathlib.Omega.{arith}
use mathlib.Core.Path.{◌∙◌}
use Rattle.value.specs.Clocks.{at_clock}
use Rattle.value.specs.Values.{date_in}
use Rattle.operation_quantities.proofs.Spanned.{part_of, ticks_of_lem}
use Rattle.operation_shifting.proofs.shifts.wrapped.Goals as goal

pub at-requires : goal.at-requires
at-requires c = (part_of _ _ c.wrapped_clock.ensures, omega (arith, ticks_of_lem _ _ c.wrapped_clock.ensures))

pub returns : goal.returns
returns c = c.at.ensures ∙ (λ i. at_clock (date_in c.args.d) (ticks_of_lem _ _ c.wrapped_clock.ensures i) c.args.d.zone)
