-- Document 02, b: what a condition is judged at is a row: the fields of a line in order, each with its text and where it begins in
-- the line, or nowhere. A plain line's row is its own fields; of an occurrence of a run the second field is a made text.
use Rattle.std.specs.Prelude.{Bool, List, [], ◌∷◌, map, ℕ, ◌+◌, ◌-◌, leb, length, get_or}
use Rattle.basis.specs.Choice.{pick, both}
use Rattle.timetable.specs.Fields.{fields_of}

-- where a field stands: at an offset of the line, or nowhere in it
pub data Standing : Type 0 where
  stands_at : ℕ → Standing
  stands_nowhere : Standing

pub record Cell : Type 0 where
  pub text : List ℕ
  pub standing : Standing

abbrev pub Row : Type 0
Row = List Cell

abbrev pub texts_of : Row → List (List ℕ)
texts_of row = map (λ c. c.text) row

-- fields one after the other, the first at an offset; each takes its bytes and the tab
unfoldable pub row_from : ℕ → List (List ℕ) → Row
row_from o [] = []
row_from o (f ∷ fs) = record { text = f; standing = stands_at o } ∷ row_from (o + length f + 1) fs

-- the row of a plain line: its own fields
unfoldable pub row_of : List ℕ → Row
row_of line = row_from 0 (fields_of line)

-- "`$2` is then its written text, other fields stay as they are"
unfoldable pub with_second : List ℕ → Row → Row
with_second made [] = []
with_second made (c ∷ []) = c ∷ []
with_second made (c ∷ d ∷ cs) = c ∷ record { text = made; standing = stands_nowhere } ∷ cs

-- a line with a made text beside it, empty for none
unfoldable pub row_with : List ℕ → List ℕ → Row
row_with line [] = row_of line
row_with line (b ∷ bs) = with_second (b ∷ bs) (row_of line)

-- whether a row has an n-th field, counted from 1
unfoldable pub has_cell : Row → ℕ → Bool
has_cell row n = both (leb 1 n) (leb n (length row))

-- the text of the n-th field; empty where the row has none
unfoldable pub cell_text : Row → ℕ → List ℕ
cell_text row n = pick (has_cell row n) (get_or row (n - 1) (record { text = []; standing = stands_nowhere })).text []
