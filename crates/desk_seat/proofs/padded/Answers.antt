use Rattle.desk_seat.proofs.Padding.{copied_in}
use Rattle.desk_seat.proofs.padded.Goals as goal

pub returns : goal.returns
returns c = copied_in c.args.text.now c.copy_from_slice.ensures.after
