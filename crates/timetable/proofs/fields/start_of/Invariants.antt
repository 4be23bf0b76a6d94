use Rattle.timetable.specs.Carried.{StartsAt}
use Rattle.timetable.proofs.fields.start_of.Given as goal

-- `fields::start_of` meets its contract: past the tab of each earlier field the next one starts.
abbrev pub invariant-loop-earlier : goal.invariant-loop-earlier
invariant-loop-earlier l = StartsAt l.at l.line l._earlier
