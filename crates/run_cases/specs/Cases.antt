-- Document 02, b: a line stands for cases, one for each turn: a row of fields to be judged, a miss, or a refusal.
use Rattle.std.specs.Prelude.{List, [], ◌∷◌, ℕ, ltb, length, get_or}
use Rattle.basis.specs.Choice.{pick}
use Rattle.basis.specs.Answer.{Reason}
use Rattle.timetable.specs.Rows.{Row}

pub data Case : Type 0 where
  row_case : Row → Case
  miss_case : Case
  refusal_case : Reason → Case

-- "A place that its good line doesn't reach .. is judged as an empty run": one miss; a bad line is its refusal at any place
abbrev pub unreached : List Case → Case
unreached [] = miss_case
unreached (row_case r ∷ cs) = miss_case
unreached (miss_case ∷ cs) = miss_case
unreached (refusal_case r ∷ cs) = refusal_case r

-- the case at a place of what a line stands for
unfoldable pub case_at : List Case → ℕ → Case
case_at cs p = pick (ltb p (length cs)) (get_or cs p miss_case) (unreached cs)
