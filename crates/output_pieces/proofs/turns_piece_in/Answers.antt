use Rattle.desk_seat.specs.Files.{over}
use Rattle.output_pieces.proofs.Leaving.{turns_leave}
use Rattle.output_pieces.proofs.turns_piece_in.Goals as goal

pub returns : goal.returns
returns c =
    let a = c.turns_in in
    turns_leave (over c.args.t.now) c.args.desk.now c.args.room.now a.new.desk a.result c.turns_told.result a.new.room a.ensures c.turns_told.ensures
