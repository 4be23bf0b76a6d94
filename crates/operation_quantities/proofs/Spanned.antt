-- A span that stands for a number of ticks: its parts, and what is computed from its ticks.
use Rattle.std.specs.Prelude.{Option}
use mathlib.Core.Path.{◌≡◌, ap, ◌∙◌}
use Prim.Native.Nat.{ℕ, ◌+◌, ◌/◌, ◌%◌, ◌<◌}
use native.Mathlib.Omega.{arith}
use lib.Dec.{ltb}
use Rattle.value.specs.Bounds.{second_ticks}
use Rattle.value.specs.Carried.{ticks_of, span_of}
use Rattle.value.specs.declared.Span.{Span}
use Rattle.value.specs.declared.Kind.{Kind}
use Rattle.value.proofs.Spans.{span_ticks}
use Rattle.operation_quantities.specs.Results.{in_ticks, at_ticks}
use Rattle.value.specs.declared.Offset.{Offset}

module _ (s : Span) (t : ℕ) (e : s ≡ span_of t) where
  pub part_of : s.part < second_ticks
  part_of = let h : s.part ≡ t % second_ticks = ap (λ (x : Span). x.part) e in omega arith

  pub seconds_of : s.seconds ≡ t / second_ticks
  seconds_of = ap (λ (x : Span). x.seconds) e

  pub ticks_of_lem : ticks_of s ≡ t
  ticks_of_lem = ap ticks_of e ∙ span_ticks t

module _ (s r : Span) (t u : ℕ) (e : s ≡ span_of t) (f : r ≡ span_of u) where
  pub spans_order : ltb (ticks_of s) (ticks_of r) ≡ ltb t u
  spans_order = λ i. ltb (ticks_of_lem s t e i) (ticks_of_lem r u f i)

  pub spans_sum : span_of (ticks_of s + ticks_of r) ≡ span_of (t + u)
  spans_sum = λ i. span_of (ticks_of_lem s t e i + ticks_of_lem r u f i)

  pub spans_in_ticks : in_ticks (ticks_of s) (ticks_of r) ≡ in_ticks t u
  spans_in_ticks = λ i. in_ticks (ticks_of_lem s t e i) (ticks_of_lem r u f i)

pub span_at_ticks : (k : Kind) (z : Option Offset) (s : Span) (t : ℕ) → s ≡ span_of t → at_ticks k (ticks_of s) z ≡ at_ticks k t z
span_at_ticks k z s t e = ap (λ (n : ℕ). at_ticks k n z) (ticks_of_lem s t e)
