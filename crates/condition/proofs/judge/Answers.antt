use Rattle.condition.proofs.Ways.{judge_bad, judge_got}
use Rattle.condition.proofs.judge.Goals as goal

pub returns-in-None : goal.returns-in-None
returns-in-None c = search (judge_bad, judge_got)

pub returns-in-Some : goal.returns-in-Some
returns-in-Some c = search (judge_bad, judge_got)
