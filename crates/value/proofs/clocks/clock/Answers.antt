use Rattle.value.proofs.ClockLaws.{clock_span}
use Rattle.value.proofs.clocks.clock.Goals as goal

pub returns : goal.returns
returns c = clock_span c.args.d c.requires
