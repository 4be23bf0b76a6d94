-- Carried: what is kept of a stretch of digits. No promise to a caller rests on it: numbers are Reading.antt and
-- Writing.antt.
use Rattle.std.specs.Prelude.{◌≡◌, Bool, true, List, [], ◌∷◌, ℕ, ◌+◌, ◌≤◌, min, leb, length}
use Rattle.basis.specs.Choice.{both}
use Rattle.numerals.specs.Reading.{numeral_at}
use Rattle.numerals.specs.declared.DigitsRead.{DigitsRead}

-- what code keeps of the stretch at i: where it ends, and its number as far as a cap
pub record Found (s : List ℕ) (i cap : ℕ) (r : DigitsRead) : Type 0 where
  pub ends : r.end ≡ i + (numeral_at s i).count
  pub capped : r.value ≡ min cap (numeral_at s i).value
  pub within : r.end ≤ length s

-- the letters by which a text is read have no byte 0 among them: past its end every text has a byte 0
unfoldable pub without_zero : List ℕ → Bool
without_zero [] = true
without_zero (c ∷ cs) = both (leb 1 c) (without_zero cs)
