-- An occurrence of a good run is first plus place x step: the product is a dayTimeDuration, and the sum lies within the years. So it has
-- an instant, that of first and place x step, and a text that reads as it.
use mathlib.Core.Path.{◌≡◌, ◌∙◌}
use mathlib.Core.Bool.{true, false}
use mathlib.Core.List.{List}
use Prim.Native.Nat.{ℕ, ◌+◌, ◌-◌, ◌*◌, ◌≤◌, ◌<◌}
use native.Mathlib.Omega.{arith}
use Rattle.basis.specs.Choice.{both, every}
use Rattle.basis.specs.Answer.{gives}
use Rattle.basis.proofs.Tests.{both_true}
use Rattle.value.specs.Bounds.{max_day_time}
use Rattle.value.specs.Durations.{plus_ticks, minus_ticks, less_ticks}
use Rattle.value.specs.Rows.{has, is_dated}
use Rattle.value.specs.Kinds.{ok_value}
use Rattle.value.specs.Values.{ok_date_time}
use Rattle.value.specs.declared.DateTime.{DateTime}
use Rattle.value.specs.declared.Kind.TheVariants as KV
use Rattle.value.specs.declared.Value.TheVariants as VV
use Rattle.value.proofs.ClockLaws.{plus_less, minus_less, less_ok}
use Rattle.value.proofs.Good.{good}
use Rattle.value.proofs.RowLaws.{date_time_ok}
use Rattle.value.specs.declared.Offset.{Offset}
use Rattle.value_instants.specs.Ticks.{local_of, instant_of, at_local, in_years, past_years}
use Rattle.value_instants.proofs.Instants.{record_near}
use Rattle.value_instants.proofs.Locals.{local_in_years, local_of_placed, placed_ok}
use Rattle.value_instants.proofs.Years.{later_in_years, not_past_few}
use Rattle.operation_shifting.specs.Shifts.{shifted}
use Rattle.operation_shifting.proofs.Undo.{placed_gives}
use Rattle.operation_arithmetic.specs.Sums.{sum_of, plus_of}
use Rattle.text.proofs.RoundTrip.{written_reads_back}
use Rattle.run_times.specs.Occurrences.{count_of}
use Rattle.run_times.proofs.Counts.{there_exactly}
use Rattle.run_cases.specs.StandsFor.{RunFields, times_in, run_of, occurrence_at}
use Rattle.run_cases.proofs.Fields.{fields_good}
use Rattle.run_cases.proofs.Lines.{good_times}
use Rattle.run_laws.specs.Sums.{OccurrenceIsSum, OccurrencesStand}

-- a dateTime plus n ticks forward
forward_sum : (d : DateTime) (n : ℕ) → ok_date_time d ≡ true → n ≤ max_day_time → in_years (local_of d + n) ≡ true
    → plus_of (VV.Moment KV.DateTime d) (VV.DayTime (less_ticks n 0)) ≡ gives (VV.Moment KV.DateTime (at_local (local_of d + n) d.zone))
unfolding plus_of sum_of ok_value shifted is_dated has every both
forward_sum d n g few y =
    let ok : both (ok_value (VV.Moment KV.DateTime d)) (ok_value (VV.DayTime (less_ticks n 0))) ≡ true = both_true _ _ (date_time_ok d g) (less_ok n 0 (omega arith)) in
    let p : plus_ticks (less_ticks n 0) ≡ n = plus_less n 0 ∙ (omega arith) in
    let q : minus_ticks (less_ticks n 0) ≡ 0 = minus_less n 0 ∙ (omega arith) in
    let z : local_of d + n - 0 ≡ local_of d + n = omega arith in
    rw (ok, p, q, z) (placed_gives KV.DateTime (local_of d + n) d.zone y)

-- what is known of an occurrence that is there
record There (zone : Offset) (r : RunFields) (p : ℕ) : Type 0 where
  first : ok_date_time r.first ≡ true
  above : 0 < r.step
  past : past_years (local_of r.first + p * r.step) ≡ false
  years : in_years (local_of r.first + p * r.step) ≡ true

there : (zone : Offset) (line : List ℕ) (r : RunFields) (p : ℕ) → run_of zone line ≡ gives r → p < count_of (times_in zone r) → There zone r p
there zone line r p e h =
    let t = good_times zone line r e in
    let g = fields_good line r t.0 in
    let w = t.1.within p h in
    record {
      first = g.first;
      above = t.1.above;
      past = w;
      years =
          later_in_years (local_of r.first) (local_of r.first + p * r.step) (omega arith) (local_in_years r.first g.first) w;
    }

pub occurrence_is_sum : OccurrenceIsSum
occurrence_is_sum zone line r p e h =
    let t = there zone line r p e h in
    forward_sum r.first (p * r.step) t.first (omega (arith, not_past_few (local_of r.first + p * r.step) t.past)) t.years

pub occurrence_stands : OccurrencesStand
unfolding ok_value
occurrence_stands zone line r p z e h =
    let t = there zone line r p e h in
    let d : DateTime = occurrence_at r p in
    let ok : ok_date_time d ≡ true = placed_ok (local_of r.first + p * r.step) r.first.zone t.years (good r.first t.first).zone in
    let a = record_near zone d z ok in
    let b = record_near zone r.first z t.first in
    let i : instant_of zone d ≡ instant_of zone r.first + p * r.step =
    omega (arith, a.balance, b.balance, local_of_placed (local_of r.first + p * r.step) r.first.zone) in
    let l : instant_of zone r.first + p * r.step ≤ instant_of zone r.last = (there_exactly (times_in zone r) p t.above).only h in
    record { valid = ok; instant = i; not_past = omega arith; reads = written_reads_back (VV.Moment KV.DateTime d) (date_time_ok d ok) }
