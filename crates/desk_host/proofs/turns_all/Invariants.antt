-- After as many pieces as are counted the turns until Idle are still to be taken, in the pieces that are left, and their bytes still to be told.
use Rattle.std.specs.Prelude.{◌-◌, ◌+◌, ◌≡◌}
use Rattle.desk_seat.specs.Files.{over}
use Rattle.output_pieces.specs.Pieces.{until_idle, most_turns}
use Rattle.output_pieces.specs.Carried.{until_idle_told}
use Rattle.desk_host.proofs.Turning.{N, to_tell}
use Rattle.desk_host.proofs.turns_all.Given as goal

abbrev pub invariant-loop : goal.invariant-loop
invariant-loop g l = record {
  takes : until_idle (over l.t) (N - l.counter) l.desk ≡ until_idle (over l.t) most_turns l.fn.desk;
  tells : to_tell (over l.t) l.desk l.counter l.told ≡ l.fn.before + until_idle_told (over l.t) most_turns l.fn.desk;
}
