-- docs/LINES.md, "Library example": which call of the desk a line is, and what it holds.
use Rattle.std.specs.Prelude.{List, ℕ, Option, Some, None, option_map, unwrap_or}
use Rattle.basis.specs.Choice.{pick}
use Rattle.basis.specs.Letters.{bytes}
use Rattle.timetable.specs.Lines.{line_end}
use Rattle.timetable.specs.Fields.{field_at, has_field}
use Rattle.condition_words.specs.Words.{between, same}
use Rattle.line_fields.specs.Fields.{after_tab}
use Rattle.line_fields.specs.Numbers.{number_of}
use Rattle.library_lines.specs.Given.{four_bytes}
use Rattle.library_lines.specs.declared.calls.DeskCall.{DeskCall}
use Rattle.library_lines.specs.declared.calls.DeskCall.TheVariants.{Turn, Open, Close}

-- the line that starts at an offset
abbrev pub line_from : List ℕ → ℕ → List ℕ
line_from input i = between input i (line_end input i)

-- which call a line is by its word: `turn` has no further field, `open` one at least, `close` a number alone
abbrev pub close_by : List ℕ → Option DeskCall
close_by line = pick (has_field line 3) None (option_map Close (number_of four_bytes (field_at line 2)))

unfoldable pub call_by : List ℕ → List ℕ → Option DeskCall
call_by line w =
    pick (same w (bytes "turn")) (pick (has_field line 2) None (Some Turn))
    (pick (same w (bytes "open")) (pick (has_field line 2) (Some Open) None)
    (pick (same w (bytes "close")) (close_by line) None))

abbrev pub call_in : List ℕ → Option DeskCall
call_in line = call_by line (field_at line 1)

abbrev pub call_at : List ℕ → ℕ → Option DeskCall
call_at input i = call_in (line_from input i)

-- "TEXT is all that follows the tab before it"
abbrev pub condition_at : List ℕ → ℕ → List ℕ
condition_at input i = after_tab (line_from input i)

-- N of `close`, read of any line's second field; 0 where that is no number
abbrev pub ticket_in : List ℕ → ℕ
ticket_in line = unwrap_or (number_of four_bytes (field_at line 2)) 0

abbrev pub ticket_at : List ℕ → ℕ → ℕ
ticket_at input i = ticket_in (line_from input i)
