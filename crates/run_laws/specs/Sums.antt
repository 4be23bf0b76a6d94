-- Document 02, b: "It stands for first, first + step and so on, as long as the instant is not past the last": an occurrence is the sum of
-- document 01, its instant is that of first and place x step, and its written text reads as it.
use Rattle.std.specs.Prelude.{◌≡◌, true, List, ℕ, ◌+◌, ◌*◌, ◌≤◌, ◌<◌}
use Rattle.basis.specs.Answer.{gives}
use Rattle.value.specs.Durations.{less_ticks}
use Rattle.value.specs.Values.{ok_offset, ok_date_time}
use Rattle.value.specs.declared.Kind.TheVariants as KV
use Rattle.value.specs.declared.Offset.{Offset}
use Rattle.value.specs.declared.Value.TheVariants as VV
use Rattle.value_instants.specs.Ticks.{instant_of}
use Rattle.text.specs.Reading.{read_as}
use Rattle.text.specs.Writing.{text_of}
use Rattle.operation_arithmetic.specs.Sums.{plus_of}
use Rattle.run_times.specs.Occurrences.{count_of}
use Rattle.run_cases.specs.StandsFor.{RunFields, times_in, run_of, occurrence_at}

-- of a good run, first plus the dayTimeDuration of place x step is the occurrence at the place; proved as `occurrence_is_sum`
abbrev pub OccurrenceIsSum : Type 0
OccurrenceIsSum =
    (zone : Offset) (line : List ℕ) (r : RunFields) (p : ℕ) → run_of zone line ≡ gives r → p < count_of (times_in zone r)
    → plus_of (VV.Moment KV.DateTime r.first) (VV.DayTime (less_ticks (p * r.step) 0)) ≡ gives (VV.Moment KV.DateTime (occurrence_at r p))

-- it is a dateTime within the bounds, its instant lies place x step after first's and is not past the last's, and what is written of it
-- reads as the same value; proved as `occurrence_stands`
pub record OccurrenceStands (zone : Offset) (r : RunFields) (p : ℕ) : Type 0 where
  pub valid : ok_date_time (occurrence_at r p) ≡ true
  pub instant : instant_of zone (occurrence_at r p) ≡ instant_of zone r.first + p * r.step
  pub not_past : instant_of zone (occurrence_at r p) ≤ instant_of zone r.last
  pub reads : read_as KV.DateTime (text_of (VV.Moment KV.DateTime (occurrence_at r p))) ≡ gives (VV.Moment KV.DateTime (occurrence_at r p))

abbrev pub OccurrencesStand : Type 0
OccurrencesStand =
    (zone : Offset) (line : List ℕ) (r : RunFields) (p : ℕ) → ok_offset zone ≡ true → run_of zone line ≡ gives r → p < count_of (times_in zone r)
    → OccurrenceStands zone r p
