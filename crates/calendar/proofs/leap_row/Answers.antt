use native.Mathlib.Omega.{arith}
use Rattle.std.proofs.lemmas.Bool.Decides.{nat_tests}
use Rattle.calendar.proofs.leap_row.Goals as goal
use Rattle.calendar.proofs.leap_row.Goals.{then-year-eq0+then-year-ne0, then-year-eq0+else-year-ne0, else-year-eq0}

pub returns : goal.returns
returns c =
    elim c.if-year-eq0.branch [
      | then-year-eq0+then-year-ne0 w ↦ grind (arith, nat_tests)
      | then-year-eq0+else-year-ne0 w ↦ grind (arith, nat_tests)
      | else-year-eq0 w ↦ grind (arith, nat_tests)
    ]
