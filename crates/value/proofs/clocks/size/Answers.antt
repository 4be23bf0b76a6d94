use Rattle.value.proofs.ClockLaws.{size_span}
use Rattle.value.proofs.clocks.size.Goals as goal

pub returns : goal.returns
returns c = size_span c.args.t c.requires
