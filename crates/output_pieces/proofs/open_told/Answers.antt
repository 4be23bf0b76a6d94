use Rattle.output_pieces.proofs.Leaving.{line_told}
use Rattle.output_pieces.proofs.open_told.Goals as goal

pub returns : goal.returns
returns c = line_told _ c.open_line.result _ _ _ _ c.open_line.ensures c.leave.ensures
