-- What follows from the definitions of Cases.antt and StandsFor.antt: how many cases a line stands for, which they are, what stands at a
-- place, and which numbers a refusal has.
use Rattle.std.specs.Prelude.{◌≡◌, Bool, true, false, List, [], ◌∷◌, ℕ, ◌≤◌, ◌<◌, eqb, length, get_or}
use Rattle.basis.specs.Choice.{pick}
use Rattle.basis.specs.Answer.{Reason, gives, refuses_for}
use Rattle.value.specs.Refusals.{bad_text, beyond_bounds, long_fraction, no_field}
use Rattle.value.specs.declared.Offset.{Offset}
use Rattle.value_instants.specs.Ticks.{instant_of}
use Rattle.timetable.specs.Rows.{row_of}
use Rattle.run_times.specs.Occurrences.{most_occurrences, count_of}
use Rattle.run_times.specs.Laws.{of_run}
use Rattle.run_cases.specs.Cases.{Case, row_case, miss_case, refusal_case, unreached, case_at}
use Rattle.run_cases.specs.StandsFor.{is_run, RunFields, times_in, run_of, occurrence_case, stands_for}

-- a line stands for at least one case and at most 1,440; proved as `stands_for_some` and `stands_for_few`
abbrev pub StandsForSome : Type 0
StandsForSome = (zone : Offset) (line : List ℕ) → 1 ≤ length (stands_for zone line)

abbrev pub StandsForFew : Type 0
StandsForFew = (zone : Offset) (line : List ℕ) → length (stands_for zone line) ≤ most_occurrences

-- what stands at a place, reached or not; proved as `case_there` and `case_past`
abbrev pub CaseThere : Type 0
CaseThere = (cs : List Case) (p : ℕ) → p < length cs → case_at cs p ≡ get_or cs p miss_case

abbrev pub CasePast : Type 0
CasePast = (cs : List Case) (p : ℕ) → length cs ≤ p → case_at cs p ≡ unreached cs

-- a plain line is the one case of its own fields; at any other place it is a miss; proved as `plain_line`
pub record Plain (zone : Offset) (line : List ℕ) : Type 0 where
  pub one : stands_for zone line ≡ row_case (row_of line) ∷ []
  pub further : (p : ℕ) → 1 ≤ p → case_at (stands_for zone line) p ≡ miss_case

abbrev pub PlainLine : Type 0
PlainLine = (zone : Offset) (line : List ℕ) → is_run line ≡ false → Plain zone line

-- a bad run is its refusal, at any place; proved as `bad_run`
pub record Bad (zone : Offset) (line : List ℕ) (why : Reason) : Type 0 where
  pub one : stands_for zone line ≡ refusal_case why ∷ []
  pub anywhere : (p : ℕ) → case_at (stands_for zone line) p ≡ refusal_case why

abbrev pub BadRun : Type 0
BadRun = (zone : Offset) (line : List ℕ) (why : Reason) → is_run line ≡ true → run_of zone line ≡ refuses_for why → Bad zone line why

-- a good run with last before first is one miss; any other has as many cases as occurrences: at each place below their number it is the
-- row with the written text of first + place x step as its second field, and at any other a miss; proved as `good_run`
pub record GoodRun (zone : Offset) (line : List ℕ) (r : RunFields) : Type 0 where
  pub empty : instant_of zone r.last < instant_of zone r.first → stands_for zone line ≡ miss_case ∷ []
  pub counted : instant_of zone r.first ≤ instant_of zone r.last → length (stands_for zone line) ≡ count_of (times_in zone r)
  pub there : (p : ℕ) → p < count_of (times_in zone r) → case_at (stands_for zone line) p ≡ occurrence_case line r p
  pub further : (p : ℕ) → count_of (times_in zone r) ≤ p → case_at (stands_for zone line) p ≡ miss_case

abbrev pub GoodRuns : Type 0
GoodRuns = (zone : Offset) (line : List ℕ) (r : RunFields) → is_run line ≡ true → run_of zone line ≡ gives r → GoodRun zone line r

-- the refusal of a run is 1, 2 or 3 of a field's text, 6, 17, 18 or 4; proved as `run_line_numbers`
abbrev pub of_run_line : ℕ → Bool
of_run_line n =
    pick (eqb n bad_text) true (pick (eqb n beyond_bounds) true (pick (eqb n long_fraction) true (pick (eqb n no_field) true (of_run n))))

abbrev pub RunLineNumbers : Type 0
RunLineNumbers = (zone : Offset) (line : List ℕ) (why : Reason) → run_of zone line ≡ refuses_for why → of_run_line why.number ≡ true

-- so no other number stands at a place of any line; proved as `refusal_numbers`
abbrev pub RefusalsAtLine : Type 0
RefusalsAtLine = (zone : Offset) (line : List ℕ) (p : ℕ) (why : Reason) → case_at (stands_for zone line) p ≡ refusal_case why → of_run_line why.number ≡ true
