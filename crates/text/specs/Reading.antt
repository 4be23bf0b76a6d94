-- Document 01, "Reading text", and document 02, a: what a text reads as, by the kind that is asked for. The blanks
-- round the value are stripped first. Dates, times and dateTimes are read along the layout of their kind, durations
-- by the components of their form.
use Rattle.std.specs.Prelude.{List, ℕ}
use Rattle.basis.specs.Choice.{pick}
use Rattle.basis.specs.Answer.{Answer}
use Rattle.value.specs.Rows.{is_moment}
use Rattle.value.specs.declared.Kind.{Kind}
use Rattle.value.specs.declared.Value.{Value}
use Rattle.text_blanks.specs.Blanks.{bare}
use Rattle.text_layouts.specs.Reading.{read_layout}
use Rattle.text_durations.specs.Walks.{read_duration}

-- what the bytes of a value read as; a blank among them is a byte like any other
unfoldable pub read_bare : Kind → List ℕ → Answer Value
read_bare k s = pick (is_moment k) (read_layout k s) (read_duration k s)

-- "leading and trailing bytes 9, 10, 13 and 32 are no part of the value .. The order of checks begins after the stripping."
unfoldable pub read_as : Kind → List ℕ → Answer Value
read_as k s = read_bare k (bare s)
