-- Document 01, "Timetable, seats and turns": what the desk reads its lines from, which is one file, the timetable. It is handed to
-- every turn.
use Rattle.std.specs.Prelude.{List, ℕ}

pub record Files : Type 0 where
  pub timetable : List ℕ

-- these bytes as the timetable
abbrev pub over : List ℕ → Files
over t = record { timetable = t }
