-- docs/LINES.md, "Hostile desks" and "Library example": the text after a line's first field.
use Rattle.std.specs.Prelude.{List, ℕ, ◌+◌, length, drop}
use Rattle.timetable.specs.Fields.{field_at}

-- TEXT: "all that follows the first tab, further tabs included"
abbrev pub after_tab : List ℕ → List ℕ
after_tab line = drop (length (field_at line 1) + 1) line
