use Rattle.text_scan.proofs.Along.{marks}
use Rattle.text_scan.proofs.parts_of.Goals as goal

pub scan_all-requires : goal.scan_all-requires
scan_all-requires c = marks c.args.kind c.args.s.now c.layout.ensures c.start.ensures
