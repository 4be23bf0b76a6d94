-- A run over its spans: that its products and sums fit, and what the comparisons of spans say.
use mathlib.Core.Path.{◌≡◌, sym, ◌∙◌}
use mathlib.Core.Bool.{Bool, true, false, not}
use Prim.Native.Nat.{ℕ, ◌+◌, ◌*◌, ◌/◌, ◌≤◌, ◌<◌, ◌^◌}
use native.Mathlib.Nat.{mul-le-mul, mul_comm}
use native.Mathlib.Omega.{arith}
use lib.Dec.{ltb}
use borrow.Author.Tests.{ltb-true, ltb-false, le-leb, lt-leb}
use Rattle.value.specs.Bounds.{second_ticks, max_day_time}
use Rattle.value.specs.declared.Span.{Span}
use Rattle.value.specs.Carried.{ticks_of, span_of}
use Rattle.value.proofs.Spans.{has_ticks}
use Rattle.run_times.specs.Occurrences.{most_occurrences, count_of}
use Rattle.run_times.specs.Carried.{span_times, Short, Going}
use Rattle.run_times.specs.declared.Run.{Run}
use Rattle.run_times.proofs.Counts.{reached_by}

-- a short span has few seconds
pub seconds_few : (s : Span) → Short s → s.seconds * second_ticks ≤ max_day_time
seconds_few s w = omega (arith, w.ticks)

-- ---- so many steps fit
module _ (s : Span) (n : ℕ) (w : Short s) (few : n ≤ most_occurrences) where
  pub steps_fit : s.seconds * n + n < 2 ^ 64
  steps_fit =
      let l : s.seconds ≤ max_day_time / second_ticks = omega (arith, w.ticks) in
      omega (arith, mul-le-mul l few)

  -- the span of so many steps
  pub record Steps (x : Span) : Type 0 where
    pub ticks : ticks_of x ≡ n * ticks_of s
    pub part : x.part < second_ticks
    pub few_ticks : ticks_of x ≤ max_day_time * most_occurrences

  pub steps : (x : Span) → x ≡ span_of (ticks_of s * n) → Steps x
  steps x e =
      let m = has_ticks x (ticks_of s * n) e in
      let b : ticks_of s * n ≤ max_day_time * most_occurrences = mul-le-mul w.ticks few in
      let q = m.ticks in
      record { ticks = m.ticks ∙ mul_comm (ticks_of s) n; part = m.part; few_ticks = omega arith }

-- ---- whether a place is reached, by the comparison of last with the occurrence's instant
pub reached_says : (r : Run) (p : ℕ) (at : Span) (b : Bool) → Going r → ticks_of at ≡ ticks_of r.first + p * ticks_of r.step
    → ltb (ticks_of r.last) (ticks_of at) ≡ b → not b ≡ ltb p (count_of (span_times r))
reached_says r p at true g e h =
    sym (lt-leb (ticks_of r.first + p * ticks_of r.step) (ticks_of r.last) (omega (arith, ltb-true (ticks_of r.last) (ticks_of at) h)))
    ∙ reached_by (span_times r) g.above p
reached_says r p at false g e h =
    sym (le-leb (ticks_of r.first + p * ticks_of r.step) (ticks_of r.last) (omega (arith, ltb-false (ticks_of r.last) (ticks_of at) h)))
    ∙ reached_by (span_times r) g.above p
