-- A span of whole seconds and a part is its number of ticks, and there is one with each number.
use mathlib.Core.Path.{◌≡◌, ap, ◌∙◌}
use Prim.Native.Nat.{ℕ, ◌+◌, ◌*◌, ◌/◌, ◌%◌, ◌<◌}
use native.Mathlib.Omega.{arith}
use Rattle.value.specs.Bounds.{second_ticks}
use Rattle.value.specs.Carried.{ticks_of, span_of}
use Rattle.value.specs.declared.Span.{Span}

-- the one span with a number of ticks
pub span_is : (s p t : ℕ) → p < second_ticks → s * second_ticks + p ≡ t → record { seconds = s; part = p } ≡ span_of t
span_is s p t h e =
    let es : s ≡ t / second_ticks = omega arith in
    let ep : p ≡ t % second_ticks = omega arith in
    λ i. record { seconds = es i; part = ep i }

pub span_ticks : (t : ℕ) → ticks_of (span_of t) ≡ t
span_ticks t = omega arith

pub span_part : (t : ℕ) → (span_of t).part < second_ticks
span_part t = omega arith

-- what the span of a number of ticks has
pub record HasTicks (s : Span) (t : ℕ) : Type 0 where
  pub ticks : ticks_of s ≡ t
  pub part : s.part < second_ticks

pub has_ticks : (s : Span) (t : ℕ) → s ≡ span_of t → HasTicks s t
has_ticks s t e =
    let p : s.part ≡ t % second_ticks = ap (λ (x : Span). x.part) e in
    record { ticks = ap (λ (x : Span). ticks_of x) e ∙ span_ticks t; part = omega arith }
