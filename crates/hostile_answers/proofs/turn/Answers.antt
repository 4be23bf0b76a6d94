use mathlib.Core.Path.{◌≡◌}
use lib.ListN.{length}
use Rattle.desk.specs.Bounds.{seat_count}
use Rattle.output_turns.proofs.Calls.{mapped_length}
use Rattle.hostile_answers.proofs.Told.{turn_within}
use borrow.Author.Rules.{rules}
use Rattle.hostile_answers.proofs.turn.Goals as goal

pub turn_line-requires : goal.turn_line-requires
turn_line-requires g c =
    let z : length c.args.desk.seats ≡ seat_count = search (mapped_length, rules) in
    turn_within _ _ c.turn-after.result z c.turn-after.ensures
