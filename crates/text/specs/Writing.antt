-- Document 01, "Writing text" and refusals 16 and 15: the text of a value, and what a lent room holds after it was written.
use Rattle.std.specs.Prelude.{List, ◌++◌, ℕ, leb, length, drop, Err, Ok, Result}
use Rattle.basis.specs.Choice.{pick}
use Rattle.basis.specs.Answer.{Answer, gives, refuses_for, refuses}
use Rattle.value.specs.Reasons.{reason_of}
use Rattle.value.specs.Refusals.{no_room, outside}
use Rattle.value.specs.Kinds.{ok_value}
use Rattle.value.specs.declared.Value.{Value}
use Rattle.value.specs.declared.Value.TheVariants as VV
use Rattle.text_layouts.specs.Writing as layouts
use Rattle.text_durations.specs.Spelling.{duration_text_of}
use Rattle.value.specs.declared.Refusal.{Refusal}

unfoldable pub text_of : Value → List ℕ
text_of (VV.Moment k d) = layouts.kind_text k d
text_of (VV.DayTime t) = duration_text_of (VV.DayTime t)
text_of (VV.YearMonth m) = duration_text_of (VV.YearMonth m)

-- what an answer says: the length written, or the number of a refusal
abbrev pub written_meaning : Result ℕ Refusal → Answer ℕ
written_meaning (Ok n) = gives n
written_meaning (Err r) = refuses_for (reason_of r)

-- 16 for a value outside the bounds, then 15 for a room that the text does not fit
unfoldable pub written : Value → ℕ → Answer ℕ
written v room =
    pick (ok_value v) (pick (leb (length (text_of v)) room) (gives (length (text_of v))) (refuses no_room)) (refuses outside)

-- a refusal leaves every byte; bytes after the text are untouched
unfoldable pub after_write : Value → List ℕ → List ℕ
after_write v room =
    pick (ok_value v) (pick (leb (length (text_of v)) (length room)) (text_of v ++ drop (length (text_of v)) room) room) room
