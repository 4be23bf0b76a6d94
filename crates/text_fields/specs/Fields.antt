-- Document 01, "Conditions" and "Refusal numbers", and document 02, b: a field of a row, read as a kind.
use Rattle.std.specs.Prelude.{List, map, ℕ}
use Rattle.basis.specs.Choice.{pick}
use Rattle.basis.specs.Answer.{Answer, refuses}
use Rattle.value.specs.Refusals.{no_field}
use Rattle.value.specs.declared.Kind.{Kind}
use Rattle.value.specs.declared.Value.{Value}
use Rattle.timetable.specs.Rows.{Row, texts_of, has_cell, cell_text}
use Rattle.text_blanks.specs.Blanks.{bare}
use Rattle.text.specs.Reading.{read_as}

-- "line has fewer fields than `$n` asks" is 6
unfoldable pub read_field : Kind → Row → ℕ → Answer Value
read_field k row n = pick (has_cell row n) (read_as k (cell_text row n)) (refuses no_field)

-- the texts of a row without the blanks round them
abbrev pub bare_texts : Row → List (List ℕ)
bare_texts row = map bare (texts_of row)
