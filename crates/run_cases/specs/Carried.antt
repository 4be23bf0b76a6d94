-- Carried: what the call that looks at a line hands to a seat: the case at a place, a made text beside the line in it, and whether the
-- line has a case after it; and the run of a line in spans, on the way there. No promise to a caller rests on it: a turn is stated over
-- `stands_for` of StandsFor.antt.
use Rattle.std.specs.Prelude.{◌≡◌, true, false, List, [], ℕ, ◌+◌, ltb, length, Err, Ok, Option, Result}
use Rattle.basis.specs.Answer.{Answer, gives, refuses_for, and_then}
use Rattle.value.specs.Reasons.{reason_of}
use Rattle.value.specs.Values.{ok_zone}
use Rattle.value.specs.declared.DateTime.{DateTime}
use Rattle.value.specs.declared.Kind.TheVariants as KV
use Rattle.value.specs.declared.Offset.{Offset}
use Rattle.value.specs.declared.Span.{Span}
use Rattle.value_instants.specs.Ticks.{local_of, instant_of, in_years, forward_of}
use Rattle.value.specs.Carried.{ticks_of, span_of}
use Rattle.timetable.specs.Rows.{row_of, row_with}
use Rattle.text.specs.Alike.{moment_of}
use Rattle.text_fields.specs.Fields.{read_field}
use Rattle.run_times.specs.Occurrences.{count_of, run_checked}
use Rattle.run_times.specs.Carried.{Good}
use Rattle.run_times.specs.declared.Run.{Run}
use Rattle.run_cases.specs.Cases.{Case, row_case, miss_case, refusal_case, case_at}
use Rattle.run_cases.specs.StandsFor.{RunFields, times_in, occurrences, or_miss, run_cases}
use Rattle.run_cases.specs.declared.CaseRead.{CaseRead}
use Rattle.run_cases.specs.declared.CaseRead.TheVariants as SV
use Rattle.run_cases.specs.declared.CaseAtPlace.{CaseAtPlace}
use Rattle.run_cases.specs.declared.Timed.{Timed}
use Rattle.run_cases.specs.declared.RunSpans.{RunSpans}
use Rattle.value.specs.declared.Refusal.{Refusal}

-- the case that is meant: of a row, the line with the made text beside it
abbrev pub case_said : List ℕ → List ℕ → CaseRead → Case
case_said line made SV.Row = row_case (row_with line made)
case_said line made SV.Miss = miss_case
case_said line made (SV.Refused r) = refusal_case (reason_of r)

-- the case at a place of what a line stands for, and whether the line has one after it
pub record Shows (r : CaseAtPlace) (line : List ℕ) (cs : List Case) (p : ℕ) : Type 0 where
  pub what : case_said line r.made r.read ≡ case_at cs p
  pub more : r.more ≡ ltb (p + 1) (length cs)

-- a case without a made text, and with nothing after it
pub record Alone (r : CaseAtPlace) (s : CaseRead) : Type 0 where
  pub said : r.read ≡ s
  pub none : r.made ≡ []
  pub last : r.more ≡ false

-- the times of a dateTime in spans, and its own zone
abbrev pub timed_in : Offset → DateTime → Timed
timed_in zone d = record { local = span_of (local_of d); instant = span_of (instant_of zone d); zone = d.zone }

-- a field read as a dateTime, and the fifth as the step
unfoldable pub time_read : Offset → List ℕ → ℕ → Answer Timed
time_read zone line n = and_then (read_field KV.DateTime (row_of line) n) (λ v. gives (timed_in zone (moment_of v)))

abbrev pub time_meaning : Result Timed Refusal → Answer Timed
time_meaning (Ok t) = gives t
time_meaning (Err r) = refuses_for (reason_of r)

unfoldable pub step_read : List ℕ → Answer Span
step_read line = and_then (read_field KV.DayTimeDuration (row_of line) 5) (λ v. gives (span_of (forward_of v)))

abbrev pub step_meaning : Result Span Refusal → Answer Span
step_meaning (Ok s) = gives s
step_meaning (Err r) = refuses_for (reason_of r)

-- the run of first, last and step in spans
abbrev pub run_from : Timed → Timed → Span → RunSpans
run_from a b s = record { run = record { first = a.instant; last = b.instant; local = a.local; step = s }; zone = a.zone }

-- the step after first and last, and both after first
unfoldable pub after_last : List ℕ → Timed → Timed → Answer RunSpans
after_last line a b = and_then (step_read line) (λ s. gives (run_from a b s))

unfoldable pub after_first : Offset → List ℕ → Timed → Answer RunSpans
after_first zone line a = and_then (time_read zone line 4) (λ b. after_last line a b)

-- the fields of a run in spans, and the zone that its occurrences are written in
abbrev pub spans_in : Offset → RunFields → RunSpans
spans_in zone f =
    record {
      run =
          record {
            first = span_of (instant_of zone f.first);
            last = span_of (instant_of zone f.last);
            local = span_of (local_of f.first);
            step = span_of f.step;
          };
      zone = f.first.zone;
    }

abbrev pub spans_read : Offset → Answer RunFields → Answer RunSpans
spans_read zone (gives f) = gives (spans_in zone f)
spans_read zone (refuses_for r) = refuses_for r

abbrev pub read_meaning : Result RunSpans Refusal → Answer RunSpans
read_meaning (Ok x) = gives x
read_meaning (Err r) = refuses_for (reason_of r)

-- a run whose fields were read, and its zone
pub record GoodSpans (run : Run) (zone : Option Offset) : Type 0 where
  pub short : Good run
  pub years : in_years (ticks_of run.local) ≡ true
  pub zoned : ok_zone zone ≡ true

-- what is said of a run at a place holds of every line that has the run: of a good one's occurrences, and of any one's cases
abbrev pub ShowsOccurrence : CaseAtPlace → Run → Option Offset → ℕ → Type 0
ShowsOccurrence r run own p =
    (zone : Offset) (line : List ℕ) (f : RunFields) → record { run = run; zone = own } ≡ spans_in zone f
    → Shows r line (or_miss (occurrences line f 0 (count_of (times_in zone f)))) p

abbrev pub ShowsRun : CaseAtPlace → Run → Option Offset → ℕ → Type 0
ShowsRun r run own p =
    (zone : Offset) (line : List ℕ) (f : RunFields) → record { run = run; zone = own } ≡ spans_in zone f
    → Shows r line (run_cases zone line (and_then (run_checked (times_in zone f)) (λ good. gives f))) p
