use Rattle.condition.proofs.Ways.{check_short, check_long, check_deep, check_bad, check_got}
use Rattle.condition.proofs.check.Goals as goal

pub returns-then-text-lt-MIN_LENGTH : goal.returns-then-text-lt-MIN_LENGTH
returns-then-text-lt-MIN_LENGTH c = search (check_short, check_long, check_deep, check_bad, check_got)

pub returns-then-text-gt-MAX_LENGTH : goal.returns-then-text-gt-MAX_LENGTH
returns-then-text-gt-MAX_LENGTH c = search (check_short, check_long, check_deep, check_bad, check_got)

pub returns-then-too_deep : goal.returns-then-too_deep
returns-then-too_deep c = search (check_short, check_long, check_deep, check_bad, check_got)

pub returns-in-None : goal.returns-in-None
returns-in-None c = search (check_short, check_long, check_deep, check_bad, check_got)

pub returns-in-Some : goal.returns-in-Some
returns-in-Some c = search (check_short, check_long, check_deep, check_bad, check_got)
