use mathlib.Core.Path.{ap, sym, ◌∙◌}
use Rattle.run_times.specs.Carried.{verdict_meaning}
use Rattle.run_times.proofs.Verdicts.{good_exactly}
use Rattle.run_cases.proofs.Showing.{refused_shown, good_shown}
use Rattle.run_cases.proofs.at_run.Goals as goal

pub at_occurrence-requires : goal.at_occurrence-requires
at_occurrence-requires c =
    let b = c in (
      b.requires.0,
      (good_exactly _).only (sym (ap verdict_meaning (sym c.in-Ok.is) ∙ c.checked.ensures)),
      b.requires.1,
    )

pub returns-in-Err : goal.returns-in-Err
returns-in-Err c =
    refused_shown _ _ _ _ c.in-Err.r c.alone.ensures
    (ap verdict_meaning (sym c.in-Err.is) ∙ c.checked.ensures)

pub returns-in-Ok : goal.returns-in-Ok
returns-in-Ok c =
    good_shown _ _ _ _ (ap verdict_meaning (sym c.in-Ok.is) ∙ c.checked.ensures)
    c.at_occurrence.ensures
