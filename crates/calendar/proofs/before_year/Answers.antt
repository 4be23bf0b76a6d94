use Rattle.calendar.proofs.Cycle.{sum_by_cycle}
use Rattle.calendar.proofs.before_year.Goals as goal

pub returns : goal.returns
returns c = sum_by_cycle c.args.year
