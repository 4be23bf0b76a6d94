-- Document 02, a, through the calculator: blanks round the texts of a call change nothing of its answer. Round its word, the names of
-- kinds and a whole number they are bytes like any other.
use Rattle.std.specs.Prelude.{◌≡◌, List, ℕ, length}
use Rattle.timetable.specs.Fields.{fields_of, field_at}
use Rattle.text_blanks.specs.Blanks.{bare}
use Rattle.calls.specs.Answers.{answer_of}

-- lines that are alike but for blanks round fields 3 and 5, in which the texts of every call stand
pub record AlikeCalls (a b : List ℕ) : Type 0 where
  pub count : length (fields_of a) ≡ length (fields_of b)
  pub word : field_at a 1 ≡ field_at b 1
  pub kind : field_at a 2 ≡ field_at b 2
  pub text : bare (field_at a 3) ≡ bare (field_at b 3)
  pub other : field_at a 4 ≡ field_at b 4
  pub second : bare (field_at a 5) ≡ bare (field_at b 5)

-- they have the same answer; proved as `blanks_change_no_answer`
abbrev pub BlanksChangeNoAnswer : Type 0
BlanksChangeNoAnswer = (a b : List ℕ) → AlikeCalls a b → answer_of a ≡ answer_of b
