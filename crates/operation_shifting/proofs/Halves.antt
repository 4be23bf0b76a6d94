-- The two halves of a signed number: each is at most its magnitude, and one of them is added or taken off, also round
-- the day.
use mathlib.Core.Path.{◌≡◌, ap, sym, ◌∙◌}
use mathlib.Core.Bool.{Bool, true, false}
use Prim.Native.Nat.{ℕ, ◌+◌, ◌-◌, ◌%◌, ◌≤◌}
use native.Mathlib.Omega.{arith}
use Rattle.value.specs.Bounds.{day_ticks}
use Rattle.value.specs.Carried.{ticks_of, span_of}
use Rattle.value.specs.Durations.{plus_half, minus_half}
use Rattle.value.specs.declared.Span.{Span}
use Rattle.operation_quantities.proofs.Spanned.{ticks_of_lem}
use Rattle.operation_shifting.specs.Shifts.{wrapped_clock}

pub plus_to : (n : Bool) (m : ℕ) → plus_half n m ≤ m
plus_to true m = omega arith
plus_to false m = omega arith

pub minus_to : (n : Bool) (m : ℕ) → minus_half n m ≤ m
minus_to true m = omega arith
minus_to false m = omega arith

-- a negative number taken off, and another added
pub taken_off : (l m : ℕ) (n : Bool) → n ≡ true → l - m ≡ l + plus_half n m - minus_half n m
taken_off l m n e = sym ((λ i. l + plus_half (e i) m - minus_half (e i) m) ∙ plain)
  where
    plain : l + 0 - m ≡ l - m
    plain = omega arith

pub added_on : (l m : ℕ) (n : Bool) → n ≡ false → l + m ≡ l + plus_half n m - minus_half n m
added_on l m n e = sym ((λ i. l + plus_half (e i) m - minus_half (e i) m) ∙ plain)
  where
    plain : l + m - 0 ≡ l + m
    plain = omega arith

-- the same round the day
taken_round : (u m : ℕ) (n : Bool) → n ≡ true → (u + (day_ticks - m % day_ticks)) % day_ticks ≡ wrapped_clock u (plus_half n m) (minus_half n m)
taken_round u m n e = sym ((λ i. wrapped_clock u (plus_half (e i) m) (minus_half (e i) m)) ∙ plain)
  where
    plain : wrapped_clock u 0 m ≡ (u + (day_ticks - m % day_ticks)) % day_ticks
    plain = omega arith

added_round : (u m : ℕ) (n : Bool) → n ≡ false → (u + m % day_ticks) % day_ticks ≡ wrapped_clock u (plus_half n m) (minus_half n m)
added_round u m n e = sym ((λ i. wrapped_clock u (plus_half (e i) m) (minus_half (e i) m)) ∙ plain)
  where
    plain : wrapped_clock u m 0 ≡ (u + m % day_ticks) % day_ticks
    plain = omega arith

-- and of spans, through those that the code has in hand: the time of day, and the duration less its whole days
module _ (c s r : Span) (u m : ℕ) (n : Bool) (ec : c ≡ span_of u) (es : s ≡ span_of m) (er : r ≡ span_of (ticks_of s % day_ticks)) where
  rest_is : ticks_of r ≡ m % day_ticks
  rest_is = ticks_of_lem r (ticks_of s % day_ticks) er ∙ ap (λ (t : ℕ). t % day_ticks) (ticks_of_lem s m es)

  pub rest_to : ticks_of r ≤ day_ticks
  rest_to = omega (arith, rest_is)

  pub taken_spans : (b a w : Span) → n ≡ true → b ≡ span_of (day_ticks - ticks_of r) → a ≡ span_of (ticks_of c + ticks_of b)
      → w ≡ span_of (ticks_of a % day_ticks) → w ≡ span_of (wrapped_clock u (plus_half n m) (minus_half n m))
  taken_spans b a w e eb ea ew =
      let p : ticks_of b ≡ day_ticks - m % day_ticks = ticks_of_lem b (day_ticks - ticks_of r) eb ∙ ap (λ (t : ℕ). day_ticks - t) rest_is in
      let q : ticks_of a ≡ u + (day_ticks - m % day_ticks) = ticks_of_lem a (ticks_of c + ticks_of b) ea ∙ (λ i. ticks_of_lem c u ec i + p i) in
      ew ∙ ap (λ (t : ℕ). span_of (t % day_ticks)) q ∙ ap span_of (taken_round u m n e)

  pub added_spans : (a w : Span) → n ≡ false → a ≡ span_of (ticks_of c + ticks_of r)
      → w ≡ span_of (ticks_of a % day_ticks) → w ≡ span_of (wrapped_clock u (plus_half n m) (minus_half n m))
  added_spans a w e ea ew =
      let q : ticks_of a ≡ u + m % day_ticks = ticks_of_lem a (ticks_of c + ticks_of r) ea ∙ (λ i. ticks_of_lem c u ec i + rest_is i) in
      ew ∙ ap (λ (t : ℕ). span_of (t % day_ticks)) q ∙ ap span_of (added_round u m n e)
