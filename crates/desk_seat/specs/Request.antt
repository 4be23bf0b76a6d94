-- Document 01, "Timetable, seats and turns": what Open is asked.
use Rattle.std.specs.Prelude.{List, ℕ}

pub record Request : Type 0 where
  pub condition : List ℕ

-- this text as the condition
abbrev pub asking : List ℕ → Request
asking text = record { condition = text }
