-- docs/LINES.md, "Library example": the desk after a line, and after all lines in order. A line that is none of the desk's calls
-- leaves it as it is.
use Rattle.std.specs.Prelude.{List, [], ◌∷◌, ℕ, Option, Some, None}
use Rattle.timetable.specs.Lines.{Line}
use Rattle.line_fields.specs.Fields.{after_tab}
use Rattle.desk_seat.specs.Files.{Files}
use Rattle.desk_seat.specs.Request.{asking}
use Rattle.desk.specs.Desk.{open_of, close_of, turn_of}
use Rattle.desk.specs.declared.Desk.{Desk}
use Rattle.library_lines.specs.Calls.{call_in}
use Rattle.library_lines.specs.declared.calls.DeskCall.{DeskCall}
use Rattle.library_lines.specs.declared.calls.DeskCall.TheVariants.{Turn, Open, Close}

abbrev pub after_call : Files → Option DeskCall → List ℕ → Desk → Desk
after_call f None line d = d
after_call f (Some Turn) line d = (turn_of f d).desk
after_call f (Some Open) line d = (open_of (asking (after_tab line)) d).desk
after_call f (Some (Close n)) line d = (close_of n d).desk

unfoldable pub after_calls : Files → List Line → Desk → Desk
after_calls f [] d = d
after_calls f (l ∷ ls) d = after_calls f ls (after_call f (call_in l.text) l.text d)
