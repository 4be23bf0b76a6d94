use Rattle.value_instants.proofs.Years.{past_where_none}
use Rattle.value_instants.proofs.ticks.past_years.Goals as goal

pub returns : goal.returns
returns c = past_where_none _ _ c.requires _ _ c.date_of.ensures c.is_none.ensures
