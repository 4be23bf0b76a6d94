use Rattle.run_cases.proofs.Word.{run_tested}
use Rattle.run_cases.proofs.is_run.Goals as goal

pub returns : goal.returns
returns c = run_tested _ c.is_field.ensures
