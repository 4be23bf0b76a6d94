use Rattle.condition.proofs.Ways.{kinds_clash, kinds_truth, kinds_value}
use Rattle.condition.proofs.kinds.Goals as goal

pub returns-in-Clash : goal.returns-in-Clash
returns-in-Clash c = search kinds_clash

pub returns-in-Truth : goal.returns-in-Truth
returns-in-Truth c = search kinds_truth

pub returns-in-Of : goal.returns-in-Of
returns-in-Of c = search kinds_value
