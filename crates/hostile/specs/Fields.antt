-- docs/LINES.md, "Hostile desks": the text of a condition in an event's line.
use Rattle.std.specs.Prelude.{List, ℕ}
use Rattle.line_fields.specs.Fields.{after_tab}

-- TEXT of `seat→I→condition`: "all that follows the third tab, further tabs included"
abbrev pub condition_text : List ℕ → List ℕ
condition_text line = after_tab (after_tab (after_tab line))
