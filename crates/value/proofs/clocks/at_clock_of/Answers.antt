use Rattle.value.proofs.clocks.at_clock_of.Goals as goal

pub returns : goal.returns
returns c = c.with_time.ensures
