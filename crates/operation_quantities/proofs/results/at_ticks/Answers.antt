use Rattle.operation_quantities.specs.Results.{at_ticks}
use Rattle.operation_quantities.proofs.results.at_ticks.Goals as goal

pub returns-in-Some : goal.returns-in-Some
unfolding at_ticks
returns-in-Some c = simp (← c.kept.ensures, c.in-Some.is, ← c.placed-found.ensures)

pub returns-in-None : goal.returns-in-None
unfolding at_ticks
returns-in-None c = simp (← c.refused.ensures, c.in-None.is, ← c.placed-found.ensures)
