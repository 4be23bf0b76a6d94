use Rattle.condition.proofs.Ways.{none_bad, value_good, truth_good, one_bad}
use Rattle.condition.proofs.literals.Goals as goal

pub returns-in-Nothing : goal.returns-in-Nothing
returns-in-Nothing c = search none_bad

pub returns-in-Is : goal.returns-in-Is
returns-in-Is c = search value_good

pub returns-in-Truth : goal.returns-in-Truth
returns-in-Truth c = search truth_good

pub returns-in-Refused : goal.returns-in-Refused
returns-in-Refused c = search one_bad
