-- The reader goes through the input. The lines from its offset on are still to be opened, and their bytes still to be told.
use Rattle.std.specs.Prelude.{length, ◌-◌, ◌+◌, ◌≡◌}
use Rattle.timetable.specs.Lines.{lines_from, offset_lines}
use Rattle.output_pieces.specs.Pieces.{opened_all}
use Rattle.output_pieces.specs.Carried.{opened_told}
use Rattle.desk_host.proofs.Opening.{to_tell}
use Rattle.desk_host.proofs.open_all.Given as goal

abbrev pub invariant-loop-reader : goal.invariant-loop-reader
invariant-loop-reader g l = record {
  reads : l.reader.timetable.now ≡ l.input;
  opens : opened_all (lines_from l.input l.reader.at) l.desk ≡ opened_all (offset_lines l.input) l.fn.desk;
  tells : to_tell l.input l.reader.at l.desk l.told ≡ l.fn.before + opened_told (offset_lines l.input) l.fn.desk;
}

abbrev pub decreases-loop-reader : goal.decreases-loop-reader
decreases-loop-reader g l = length l.input - l.reader.at
