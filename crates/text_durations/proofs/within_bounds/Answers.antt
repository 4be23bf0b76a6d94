use Rattle.text_durations.proofs.Judging.{more_months, few_months}
use Rattle.text_durations.proofs.within_bounds.Goals as goal

pub returns-then-most-sums : goal.returns-then-most-sums
returns-then-most-sums c = more_months c.args.sums _ c.if-most-sums.true

pub returns : goal.returns
returns c = few_months c.args.sums _ c.if-most-sums.false c.size_ok.ensures
