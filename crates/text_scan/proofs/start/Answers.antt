use Rattle.text_scan.proofs.Along.{started}
use Rattle.text_scan.proofs.start.Goals as goal

pub returns : goal.returns
returns c = started c.args.kind c.template-d.ensures
