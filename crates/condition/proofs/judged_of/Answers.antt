use Rattle.condition.proofs.Ways.{shows_nothing, shows_value, shows_hit, shows_miss, shows_refused}
use Rattle.condition.proofs.judged_of.Goals as goal

pub returns-then-x : goal.returns-then-x
returns-then-x c = search (shows_nothing, shows_value, shows_hit, shows_miss, shows_refused)

pub returns-in-Nothing : goal.returns-in-Nothing
returns-in-Nothing c = search (shows_nothing, shows_value, shows_hit, shows_miss, shows_refused)

pub returns-in-Is : goal.returns-in-Is
returns-in-Is c = search (shows_nothing, shows_value, shows_hit, shows_miss, shows_refused)

pub returns-else-x : goal.returns-else-x
returns-else-x c = search (shows_nothing, shows_value, shows_hit, shows_miss, shows_refused)

pub returns-in-Refused : goal.returns-in-Refused
returns-in-Refused c = search (shows_nothing, shows_value, shows_hit, shows_miss, shows_refused)
