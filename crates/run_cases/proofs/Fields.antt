-- The fields of a run that were read are valid, and so its spans are those of values.
use Rattle.std.specs.Prelude.{Result}
use mathlib.Core.Path.{◌≡◌, refl, ap, sym, subst, ◌∙◌}
use mathlib.Core.Bool.{Bool, true, false}
use mathlib.Core.List.{List}
use Prim.Native.Nat.{ℕ, ◌≤◌}
use native.Mathlib.Omega.{arith}
use lib.ListN.{length}
use Rattle.basis.specs.Choice.{pick}
use Rattle.basis.specs.Answer.{Reason, Answer, gives, refuses_for, refuses, and_then}
use Rattle.value.specs.Bounds.{max_day_time}
use Rattle.value.specs.Refusals.{no_field}
use Rattle.value.specs.Kinds.{ok_value, meaning}
use Rattle.value.specs.Values.{ok_offset, ok_date_time}
use Rattle.value.specs.declared.DateTime.{DateTime}
use Rattle.value.specs.declared.Kind.{Kind}
use Rattle.value.specs.declared.Kind.TheVariants as KV
use Rattle.value.specs.declared.Offset.{Offset}
use Rattle.value.specs.declared.Value.{Value}
use Rattle.value.proofs.Good.{good}
use Rattle.value_instants.specs.Ticks.{local_of, instant_of, in_years, forward_of}
use Rattle.value.specs.Carried.{span_of}
use Rattle.value.proofs.Spans.{span_ticks, span_part}
use Rattle.value_instants.proofs.Within.{timed, forward_to}
use Rattle.value_instants.proofs.Instants.{record_near}
use Rattle.value_instants.proofs.Locals.{local_in_years}
use Rattle.timetable.specs.Rows.{Row, has_cell, cell_text, row_of, row_with}
use Rattle.timetable.proofs.Rows.{with_none}
use Rattle.text.specs.Alike.{moment_of}
use Rattle.text.specs.Reading.{read_as}
use Rattle.text.proofs.RoundTrip.{what_reads_is_valid, moment_ok}
use Rattle.text_fields.specs.Fields.{read_field}
use Rattle.run_times.specs.Carried.{Short, span_times}
use Rattle.run_cases.specs.StandsFor.{RunFields, fields_read, times_in}
use Rattle.run_cases.specs.Carried.{timed_in, time_read, step_read, run_from, after_last, after_first, spans_in, spans_read, GoodSpans}
use Rattle.run_cases.specs.declared.RunSpans.{RunSpans}
use Rattle.basis.proofs.Answers.{refuses_same, then_gives}
use Rattle.value.specs.declared.Refusal.{Refusal}

-- a field that reads is valid
pub field_valid : (k : Kind) (row : Row) (n : ℕ) (v : Value) → read_field k row n ≡ gives v → ok_value v ≡ true
unfolding read_field
field_valid k row n v = go (has_cell row n)
  where
    go : (b : Bool) → pick b (read_as k (cell_text row n)) (refuses no_field) ≡ gives v → ok_value v ≡ true
    go true e = (what_reads_is_valid k (cell_text row n) v e).ok
    go false e = absurd (let z : ◌≡◌ {A = ℕ} 0 1 = cc in omega arith)

pub record GoodFields (f : RunFields) : Type 0 where
  pub first : ok_date_time f.first ≡ true
  pub last : ok_date_time f.last ≡ true
  pub step : f.step ≤ max_day_time

pub fields_good : (line : List ℕ) (f : RunFields) → fields_read line ≡ gives f → GoodFields f
unfolding fields_read
fields_good line f e =
    let a = then_gives (read_field KV.DateTime (row_of line) 3) _ f e in
    let b = then_gives (read_field KV.DateTime (row_of line) 4) _ f a.2 in
    let c = then_gives (read_field KV.DayTimeDuration (row_of line) 5) _ f b.2 in
    let q : record { first = moment_of a.0; last = moment_of b.0; step = forward_of c.0 } ≡ f = cc in
    subst GoodFields q
    (record {
      first = moment_ok a.0 (field_valid KV.DateTime (row_of line) 3 a.0 a.1);
      last = moment_ok b.0 (field_valid KV.DateTime (row_of line) 4 b.0 b.1);
      step = forward_to c.0 (field_valid KV.DayTimeDuration (row_of line) 5 c.0 c.1);
    })

-- ---- in spans

short : (t : ℕ) → t ≤ max_day_time → Short (span_of t)
short t h = record { part = span_part t; ticks = omega (arith, span_ticks t) }

instant_few : (o : Offset) (d : DateTime) → ok_offset o ≡ true → ok_date_time d ≡ true → instant_of o d ≤ max_day_time
instant_few o d go gd = omega (arith, (record_near o d go gd).under, (timed d gd).local_few)

pub spans_good : (zone : Offset) (f : RunFields) → ok_offset zone ≡ true → GoodFields f → GoodSpans (spans_in zone f).run (spans_in zone f).zone
spans_good zone f o g =
    record {
      short =
          record {
            first = short (instant_of zone f.first) (instant_few zone f.first o g.first);
            last = short (instant_of zone f.last) (instant_few zone f.last o g.last);
            local = short (local_of f.first) (omega (arith, (timed f.first g.first).local_few));
            step = short f.step g.step;
          };
      years = ap in_years (span_ticks (local_of f.first)) ∙ local_in_years f.first g.first;
      zoned = (good f.first g.first).zone;
    }

-- their ticks are the run's
pub times_are : (zone : Offset) (f : RunFields) → span_times (spans_in zone f).run ≡ times_in zone f
times_are zone f =
    λ i.
    record {
      first = span_ticks (instant_of zone f.first) i;
      last = span_ticks (instant_of zone f.last) i;
      local = span_ticks (local_of f.first) i;
      step = span_ticks f.step i;
    }

pub times_of_lem : (zone : Offset) (f : RunFields) (x : RunSpans) → x ≡ spans_in zone f → span_times x.run ≡ times_in zone f
times_of_lem zone f x e = ap (λ (y : RunSpans). span_times y.run) e ∙ times_are zone f

-- ---- the spans that were read

pub record ReadAs (zone : Offset) (line : List ℕ) (x : RunSpans) : Type 0 where
  pub fields : RunFields
  pub read : fields_read line ≡ gives fields
  pub spans : x ≡ spans_in zone fields

pub read_as_lem : (zone : Offset) (line : List ℕ) (x : RunSpans) → gives x ≡ spans_read zone (fields_read line) → ReadAs zone line x
read_as_lem zone line x = go (fields_read line) refl
  where
    go : (a : Answer RunFields) → fields_read line ≡ a → gives x ≡ spans_read zone a → ReadAs zone line x
    go (gives f) h e = record { fields = f; read = h; spans = cc }
    go (refuses_for r) h e = absurd (let z : ◌≡◌ {A = ℕ} 0 1 = cc in omega arith)

pub read_spans_good : (zone : Offset) (line : List ℕ) (x : RunSpans) → ok_offset zone ≡ true → gives x ≡ spans_read zone (fields_read line)
    → GoodSpans x.run x.zone
read_spans_good zone line x o e =
    let r = read_as_lem zone line x e in
    subst (λ (y : RunSpans). GoodSpans y.run y.zone) (sym r.spans) (spans_good zone r.fields o (fields_good line r.fields r.read))

pub read_refused : (zone : Offset) (line : List ℕ) (why : Reason) → refuses_for why ≡ spans_read zone (fields_read line) → fields_read line ≡ refuses_for why
read_refused zone line why = go (fields_read line)
  where
    go : (a : Answer RunFields) → refuses_for why ≡ spans_read zone a → a ≡ refuses_for why
    go (gives f) e = absurd (let z : ◌≡◌ {A = ℕ} 0 1 = cc in omega arith)
    go (refuses_for own) e = ap refuses_for (sym (refuses_same why own e))

-- ---- field after field

module _ (line : List ℕ) where
  -- what a call with an empty made text says of the line's own field
  pub own_field : (k : Kind) (n : ℕ) (made : List ℕ) (o p : Result Value Refusal) → length made ≤ 0 → meaning o ≡ read_field k (row_with line made) n → o ≡ p
      → read_field k (row_of line) n ≡ meaning p
  own_field k n made o p h e q = ap (λ (row : Row). read_field k row n) (sym (with_none line made h)) ∙ sym e ∙ ap meaning q

  pub step_refused : (why : Reason) → read_field KV.DayTimeDuration (row_of line) 5 ≡ refuses_for why → refuses_for why ≡ step_read line
  unfolding step_read and_then
  step_refused why e = rw e

  pub step_is : (v : Value) → read_field KV.DayTimeDuration (row_of line) 5 ≡ gives v → gives (span_of (forward_of v)) ≡ step_read line
  unfolding step_read and_then
  step_is v e = rw e

  pub time_refused : (zone : Offset) (n : ℕ) (why : Reason) → read_field KV.DateTime (row_of line) n ≡ refuses_for why → refuses_for why ≡ time_read zone line n
  unfolding time_read and_then
  time_refused zone n why e = rw e

  pub time_is : (zone : Offset) (n : ℕ) (v : Value) → read_field KV.DateTime (row_of line) n ≡ gives v → gives (timed_in zone (moment_of v)) ≡ time_read zone line n
  unfolding time_read and_then
  time_is zone n v e = rw e

  -- the three of them in turn
  pub in_turn : (zone : Offset) → and_then (time_read zone line 3) (λ a. after_first zone line a) ≡ spans_read zone (fields_read line)
  unfolding after_first after_last time_read step_read fields_read and_then
  in_turn zone =
      go (read_field KV.DateTime (row_of line) 3) (read_field KV.DateTime (row_of line) 4) (read_field KV.DayTimeDuration (row_of line) 5)
    where
      go : (x y z : Answer Value)
          → and_then (and_then x (λ v. gives (timed_in zone (moment_of v)))) (λ a. and_then (and_then y (λ v. gives (timed_in zone (moment_of v)))) (λ b. and_then (and_then z (λ v. gives (span_of (forward_of v)))) (λ s. gives (run_from a b s))))
          ≡ spans_read zone (and_then x (λ a. and_then y (λ b. and_then z (λ s. gives (record { first = moment_of a; last = moment_of b; step = forward_of s })))))
      go (gives a) (gives b) (gives s) = refl
      go (gives a) (gives b) (refuses_for r) = refl
      go (gives a) (refuses_for r) z = refl
      go (refuses_for r) y z = refl
