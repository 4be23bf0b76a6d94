-- Document 02, b, "Runs of departures": what a line stands for. "A line whose second field is exactly `every` has a first dateTime, a
-- last dateTime and a dayTimeDuration step in fields 3 to 5. It stands for first, first + step and so on, as long as the instant is not
-- past the last. Each turn judges one occurrence; `$2` is then its written text, other fields stay as they are. No occurrence at all is
-- one Miss. Any refusal over its fields 3 to 5 makes the line one Unreadable." The zone is the one that values without one count in.
use Rattle.std.specs.Prelude.{Bool, List, [], ◌∷◌, ℕ, zero, suc, ◌+◌, ◌*◌}
use Rattle.basis.specs.Choice.{pick}
use Rattle.basis.specs.Answer.{Answer, gives, refuses_for, and_then}
use Rattle.basis.specs.Letters.{bytes}
use Rattle.value.specs.declared.DateTime.{DateTime}
use Rattle.value.specs.declared.Kind.TheVariants as KV
use Rattle.value.specs.declared.Offset.{Offset}
use Rattle.value.specs.declared.Value.TheVariants as VV
use Rattle.value_instants.specs.Ticks.{local_of, instant_of, at_local, forward_of}
use Rattle.timetable.specs.Fields.{field_at}
use Rattle.timetable.specs.Rows.{row_of, with_second}
use Rattle.condition_words.specs.Words.{same}
use Rattle.text.specs.Alike.{moment_of}
use Rattle.text.specs.Writing.{text_of}
use Rattle.text_fields.specs.Fields.{read_field}
use Rattle.run_times.specs.Occurrences.{Times, count_of, run_checked}
use Rattle.run_cases.specs.Cases.{Case, row_case, miss_case, refusal_case}

-- "a line whose second field is exactly `every`"
unfoldable pub is_run : List ℕ → Bool
is_run line = same (field_at line 2) (bytes "every")

-- "a first dateTime, a last dateTime and a dayTimeDuration step in fields 3 to 5", the step as the ticks by which it leads forward
pub record RunFields : Type 0 where
  pub first : DateTime
  pub last : DateTime
  pub step : ℕ

-- "fields 3, 4, 5 are read in theirs (6 for a missing one)"
unfoldable pub fields_read : List ℕ → Answer RunFields
fields_read line =
    and_then (read_field KV.DateTime (row_of line) 3)
    (λ first. and_then (read_field KV.DateTime (row_of line) 4)
    (λ last. and_then (read_field KV.DayTimeDuration (row_of line) 5)
    (λ step. gives (record { first = moment_of first; last = moment_of last; step = forward_of step }))))

-- the run in ticks
abbrev pub times_in : Offset → RunFields → Times
times_in zone r =
    record { first = instant_of zone r.first; last = instant_of zone r.last; local = local_of r.first; step = r.step }

-- the run of a line, or its refusal: 17, 18, 4 "in that order, after fields 3, 4, 5 are read"
unfoldable pub run_of : Offset → List ℕ → Answer RunFields
run_of zone line = and_then (fields_read line) (λ r. and_then (run_checked (times_in zone r)) (λ good. gives r))

-- the occurrence at a place: first + place x step, in first's zone or without one
abbrev pub occurrence_at : RunFields → ℕ → DateTime
occurrence_at r p = at_local (local_of r.first + p * r.step) r.first.zone

-- "`$2` is then its written text, other fields stay as they are"
abbrev pub occurrence_case : List ℕ → RunFields → ℕ → Case
occurrence_case line r p = row_case (with_second (text_of (VV.Moment KV.DateTime (occurrence_at r p))) (row_of line))

-- so many occurrences, the first at a place
unfoldable pub occurrences : List ℕ → RunFields → ℕ → ℕ → List Case
occurrences line r p zero = []
occurrences line r p (suc n) = occurrence_case line r p ∷ occurrences line r (suc p) n

-- "No occurrence at all is one Miss."
abbrev pub or_miss : List Case → List Case
or_miss [] = miss_case ∷ []
or_miss (c ∷ cs) = c ∷ cs

-- "Any refusal over its fields 3 to 5 makes the line one Unreadable."
abbrev pub run_cases : Offset → List ℕ → Answer RunFields → List Case
run_cases zone line (gives r) = or_miss (occurrences line r 0 (count_of (times_in zone r)))
run_cases zone line (refuses_for r) = refusal_case r ∷ []

-- what a line stands for: a plain one for its own fields
unfoldable pub stands_for : Offset → List ℕ → List Case
stands_for zone line = pick (is_run line) (run_cases zone line (run_of zone line)) (row_case (row_of line) ∷ [])
