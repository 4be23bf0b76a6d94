-- Document 01, "Either side of the line": the first twelve, each as a call's line and its answer. A case with two halves has
-- two rows.
use Rattle.std.specs.Prelude.{Bool, List, [], ◌∷◌, ℕ}
use Prim.Native.String.{String}
use Rattle.basis.specs.Choice.{every}
use Rattle.basis.specs.Letters.{bytes}
use Rattle.condition_words.specs.Words.{same}
use Rattle.calls.specs.Answers.{answer_of}

pub record TableRow : Type 0 where
  pub line : List ℕ
  pub answer : List ℕ

abbrev table_row : String → String → TableRow
table_row line answer = record { line = bytes line; answer = bytes answer }

-- what stands past the table's end
abbrev pub no_row : TableRow
no_row = record { line = []; answer = [] }

unfoldable pub table : List TableRow
table =
    table_row "read\txs:dateTime\t1999-12-31T24:00:00Z" "2000-01-01T00:00:00Z"
    ∷ table_row "read\txs:dateTime\t9999-12-31T24:00:00" "refused\t2"
    ∷ table_row "read\txs:date\t2000-02-29" "2000-02-29"
    ∷ table_row "read\txs:date\t1900-02-29" "refused\t1"
    ∷ table_row "read\txs:date\t12000-13-45" "refused\t2"
    ∷ table_row "read\txs:date\t02000-01-01" "refused\t1"
    ∷ table_row "add\txs:date\t2000-01-31\txs:yearMonthDuration\tP1M" "2000-02-29"
    ∷ table_row "subtract\txs:date\t2005-03-01\txs:dayTimeDuration\tPT1H" "2005-02-28"
    ∷ table_row "subtract\txs:dateTime\t2000-10-30T06:12:00-05:00\txs:dateTime\t1999-11-28T09:00:00Z" "P337DT2H12M"
    ∷ table_row "compare\txs:time\t21:30:00+10:30\txs:time\t06:00:00-05:00" "eq"
    ∷ table_row "compare\txs:time\t08:00:00+09:00\txs:time\t17:00:00-06:00" "lt"
    ∷ table_row "adjust\txs:dateTime\t2002-03-07T10:00:00-07:00\txs:dayTimeDuration\t-PT10H" "2002-03-07T07:00:00-10:00"
    ∷ table_row "read\txs:dayTimeDuration\tPT36H" "P1DT12H"
    ∷ table_row "read\txs:dayTimeDuration\t-PT0S" "PT0S"
    ∷ table_row "read\txs:yearMonthDuration\tP83333Y4M" "P83333Y4M"
    ∷ table_row "read\txs:yearMonthDuration\tP83333Y5M" "refused\t2"
    ∷ table_row "add\txs:time\t23:30:00\txs:dayTimeDuration\tPT45M" "00:15:00"
    ∷ []

-- whether the line of a row is answered with its answer
unfoldable pub row_holds : TableRow → Bool
row_holds r = same (answer_of r.line) r.answer

unfoldable pub tests : List TableRow → List Bool
tests [] = []
tests (r ∷ rs) = row_holds r ∷ tests rs

unfoldable pub all_hold : Bool
all_hold = every (tests table)
