-- Document 01, "Reading text": what the text of a date, a time or a dateTime reads as. The parts of its kind's layout
-- are found (crate `text_scan`), and then the checks are made (crate `text_checks`). A kind without layout, as the
-- durations are, reads no text here.
use Rattle.std.specs.Prelude.{List, ℕ, length}
use Rattle.basis.specs.Choice.{pick}
use Rattle.basis.specs.Answer.{Answer, refuses}
use Rattle.value.specs.Refusals.{bad_text}
use Rattle.value.specs.Rows.{is_moment}
use Rattle.value.specs.declared.Kind.{Kind}
use Rattle.value.specs.declared.Value.{Value}
use Rattle.text_scan.specs.Scanning.{uncapped, scanned_parts}
use Rattle.text_checks.specs.Reading.{judge}

unfoldable pub read_layout : Kind → List ℕ → Answer Value
read_layout k s = pick (is_moment k) (judge k (length s) (scanned_parts uncapped k s)) (refuses bad_text)
