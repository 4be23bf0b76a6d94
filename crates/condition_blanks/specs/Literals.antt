-- Document 02, a, "Blanks round a value": "leading and trailing bytes 9, 10, 13 and 32 are no part of the value, in literals and in fields."
-- What that is for a condition: blanks put in directly after the opening quote of a literal, and directly before its closing quote, change
-- nothing of what the condition means.
use Rattle.std.specs.Prelude.{◌≡◌, true, false, List, ◌++◌, ℕ, ◌≤◌, length, take, drop}
use Rattle.value.specs.declared.Kind.{Kind}
use Rattle.value.specs.declared.Offset.{Offset}
use Rattle.timetable.specs.Rows.{Row}
use Rattle.text_blanks.specs.Blanks.{only_blanks}
use Rattle.condition_words.specs.Words.{between}
use Rattle.condition_depth.specs.Depth.{deep}
use Rattle.condition_symbols.specs.declared.Op.{Op}
use Rattle.condition_grammar.specs.Trees.{Tree, Below, leaf, one, two, literal}
use Rattle.condition_grammar.specs.Productions.{States}
use Rattle.condition.specs.Condition.{max_length, check_of, result_at}

-- that a tree has a literal whose bytes stand from an offset up to another: between its quotes
pub data LiteralIn (from to : ℕ) : Tree → Type 0 where
  here : {k : Kind} {w : ℕ} → LiteralIn from to (leaf k w (literal from to))
  below : {b : Below} {p : ℕ} {t : Tree} → LiteralIn from to t → LiteralIn from to (one b p t)
  left : {o : Op} {z p : ℕ} {t u : Tree} → LiteralIn from to t → LiteralIn from to (two o z p t u)
  right : {o : Op} {z p : ℕ} {t u : Tree} → LiteralIn from to u → LiteralIn from to (two o z p t u)

-- the text in which p is put in directly before the bytes from an offset up to another, and q directly after them
abbrev pub around : List ℕ → ℕ → ℕ → List ℕ → List ℕ → List ℕ
around s from to p q = take from s ++ (p ++ (between s from to ++ (q ++ drop to s)))

-- blanks make no text deeper, and none less deep, wherever they are put in; proved as `blanks_not_deeper`
abbrev pub BlanksNotDeeper : Type 0
BlanksNotDeeper =
    (s : List ℕ) (from to : ℕ) (p q : List ℕ) → from ≤ to → only_blanks p ≡ true → only_blanks q ≡ true → deep (around s from to p q) ≡ deep s

-- that two texts mean the same: Open's checks say the same of both, and their results are the same at every row, in every zone
pub record MeanTheSame (s t : List ℕ) : Type 0 where
  pub checked : check_of s ≡ check_of t
  pub results : (zone : Offset) (row : Row) → result_at zone s row ≡ result_at zone t row

-- blanks round the text of a literal, of any literal of a condition that is not too deep, change nothing of what the condition means, as long as
-- it does not become longer than a condition may be; proved as `literal_blanks`
abbrev pub LiteralBlanks : Type 0
LiteralBlanks =
    (s : List ℕ) (t : Tree) (from to : ℕ) (p q : List ℕ) → States s t → LiteralIn from to t → only_blanks p ≡ true → only_blanks q ≡ true
    → length (around s from to p q) ≤ max_length → deep s ≡ false → MeanTheSame (around s from to p q) s
