-- Document 01, "The desk program": the bound of its input; and how much of its output one call leaves.
use Rattle.std.specs.Prelude.{ℕ}

-- the conditions have at most 4,096 bytes
abbrev pub max_input : ℕ
max_input = 4_096

-- turns are taken many at once, as many as have their lines in so many bytes
abbrev pub room_size : ℕ
room_size = 4_096
