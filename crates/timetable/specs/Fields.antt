-- Document 01, "Timetable, seats and turns": "An empty line is a line with one empty field. Fields are parted by tabs."
use Rattle.std.specs.Prelude.{Bool, List, [], ℕ, ◌-◌, leb, length, get_or}
use Prim.Native.Char.{code}
use Rattle.basis.specs.Choice.{pick, both}
use Rattle.timetable.specs.Parted.{parted}

abbrev pub tab : ℕ
tab = code "\t"

-- the fields of a line: always at least one; a final tab makes an empty last field
unfoldable pub fields_of : List ℕ → List (List ℕ)
fields_of line = parted tab line

-- whether a line has an n-th field, counted from 1
unfoldable pub has_field : List ℕ → ℕ → Bool
has_field line n = both (leb 1 n) (leb n (length (fields_of line)))

-- the n-th field; empty where the line has none
unfoldable pub field_at : List ℕ → ℕ → List ℕ
field_at line n = pick (has_field line n) (get_or (fields_of line) (n - 1) []) []
