use Rattle.value_components.proofs.SpanParts.{clock_by}
use Rattle.value_components.proofs.clock_in.Goals as goal

pub returns : goal.returns
returns c = clock_by c.args.t.seconds c.args.t.part c.requires.0
