-- Carried: that what the program's loops count, stage by stage, are the bytes of the output. No promise to a caller rests on
-- it: what the program says at its end is said of `output_of`.
use Rattle.std.specs.Prelude.{◌≡◌, List, ℕ, length}
use Rattle.desk_seat.specs.Files.{Files}
use Rattle.output_pieces.specs.Carried.{told_at_end}
use Rattle.output.specs.Output.{output_of}

-- the bytes of the pieces, counted stage by stage, are as many as the output has
abbrev pub ToldIsTheOutput : Type 0
ToldIsTheOutput = (f : Files) (input : List ℕ) → told_at_end f input ≡ length (output_of f input)
