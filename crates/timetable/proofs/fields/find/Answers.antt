use Rattle.timetable.proofs.Tabs.{stretches}
use Rattle.timetable.proofs.fields.find.Goals as goal

-- `fields::find` meets its contract: a field goes from its start up to the next tab.
pub returns : goal.returns
returns c = stretches _ _ _ (c.in_ok-start.ensures) _ c.offset_of-end.ensures
