-- Document 02, a, at the desk: blanks round the fields of a line change none of a condition's results there, nor how many turns it takes.
use Rattle.std.specs.Prelude.{◌≡◌, List, [], ◌∷◌, ◌++◌, map, ℕ, ◌<◌, length}
use Rattle.timetable.specs.Fields.{fields_of}
use Rattle.text_blanks.specs.Blanks.{bare}
use Rattle.run_cases.specs.StandsFor.{is_run}
use Rattle.desk_seat.specs.Serving.{cases_of, case_result}

-- lines that are alike but for blanks round their fields: as many fields, each the same without them; both are runs, or neither is
pub record AlikeLines (a b : List ℕ) : Type 0 where
  pub fields : map bare (fields_of a) ≡ map bare (fields_of b)
  pub runs : is_run a ≡ is_run b

-- such lines stand for as many cases, and every condition has the same result at each; proved as `blanks_change_no_result`
abbrev pub BlanksChangeNoResult : Type 0
BlanksChangeNoResult = (c a b : List ℕ) → AlikeLines a b → map (case_result c) (cases_of a) ≡ map (case_result c) (cases_of b)

-- the byte 13 with which a line of a CRLF file ends is such a blank: of a line of three fields or more, and of any other that is no run
-- with it or without; proved as `carriage_return`
abbrev pub with_return : List ℕ → List ℕ
with_return line = line ++ 13 ∷ []

pub record CarriageReturn (line : List ℕ) : Type 0 where
  pub same_runs : is_run (with_return line) ≡ is_run line → AlikeLines (with_return line) line
  pub three_fields : 2 < length (fields_of line) → AlikeLines (with_return line) line

abbrev pub CarriageReturns : Type 0
CarriageReturns = (line : List ℕ) → CarriageReturn line
