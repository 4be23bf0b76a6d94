use Rattle.std.specs.Prelude.{Some}
use native.Mathlib.Omega.{arith}
use Rattle.value_instants.proofs.PlacedBy.{placed_on, placed_early, placed_late}
use mathlib.Core.Path.{ap, sym, ◌∙◌}
use Rattle.value_instants.proofs.ticks.placed.Goals as goal

pub returns-then-d-lt-MIN_YEAR : goal.returns-then-d-lt-MIN_YEAR
returns-then-d-lt-MIN_YEAR c = placed_early _ _ _ c.requires _ (sym c.in_ok-d.was ∙ c.date_of.ensures) c.if-d-lt-MIN_YEAR.true

pub at-requires : goal.at-requires
at-requires c = (c.requires, omega (arith, c.requires))

pub returns-in_err-d : goal.returns-in_err-d
returns-in_err-d c = c.from_residual.ensures ∙ placed_late _ _ _ c.requires (sym c.in_err-d.was ∙ c.date_of.ensures)

pub returns : goal.returns
returns c = ap Some c.at.ensures ∙ placed_on _ _ c.args.zone c.requires _ (sym c.in_ok-d.was ∙ c.date_of.ensures) c.if-d-lt-MIN_YEAR.false
