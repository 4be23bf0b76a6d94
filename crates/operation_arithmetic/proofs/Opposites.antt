-- The opposite of a signed number has its halves swapped; so has a product with a negative number, for which a span
-- has room.
use mathlib.Core.Path.{◌≡◌, ap, sym, ◌∙◌}
use mathlib.Core.Bool.{Bool, true, false}
use Prim.Native.Nat.{ℕ, ◌+◌, ◌-◌, ◌*◌, ◌/◌, ◌≤◌, ◌<◌, ◌^◌}
use native.Mathlib.Nat.{mul-le-mul_right}
use native.Mathlib.Omega.{arith}
use lib.Dec.{ltb}
use borrow.Author.Tests.{le-ltb}
use Rattle.basis.specs.Answer.{Answer}
use Rattle.value.specs.Bounds.{second_ticks, max_day_time, max_year_month}
use Rattle.value.specs.Carried.{ticks_of, span_of}
use Rattle.value.specs.Clocks.{ticks_in, duration_of}
use Rattle.value.specs.Durations.{plus_half, minus_half, plus_ticks, minus_ticks, apart}
use Rattle.value.specs.Values.{ok_day_time, ok_year_month}
use Rattle.value.specs.Kinds.{ok_value}
use Rattle.value.specs.declared.DayTime as D
use Rattle.value.specs.declared.YearMonth as Y
use Rattle.value.specs.declared.Value.{Value}
use Rattle.value.specs.declared.Value.TheVariants as VV
use Rattle.value.specs.declared.Span.{Span}
use Rattle.value.proofs.ClockLaws.{ticks_to, plus_less, minus_less, less_ok}
use Rattle.value.proofs.Signs.{difference_ok, signed_within, plus_apart, minus_apart}
use Rattle.operation_quantities.proofs.Spanned.{part_of, seconds_of, ticks_of_lem, spans_order}
use Rattle.operation_arithmetic.specs.Sums.{opposite, opposite_months}
use Rattle.operation_arithmetic.specs.Products.{max_factor, signed_times}

-- the opposite number
pub opposite_plus : (n : Bool) (m : ℕ) → n ≡ true → false ≡ ltb (minus_half n m) (plus_half n m)
opposite_plus n m e = sym ((λ i. ltb (minus_half (e i) m) (plus_half (e i) m)) ∙ le-ltb m 0 (omega arith))

pub opposite_minus : (n : Bool) (m : ℕ) → n ≡ false → ltb 0 m ≡ ltb (minus_half n m) (plus_half n m)
opposite_minus n m e = sym (λ i. ltb (minus_half (e i) m) (plus_half (e i) m))

pub opposite_size : (n : Bool) (m : ℕ) → apart (minus_half n m) (plus_half n m) ≡ m
opposite_size true m = omega arith
opposite_size false m = omega arith

-- one half is all of the difference of the two, as far as it is above zero
minus_alone : (n : Bool) (m : ℕ) → minus_half n m - plus_half n m ≡ minus_half n m
minus_alone true m = omega arith
minus_alone false m = omega arith

plus_alone : (n : Bool) (m : ℕ) → plus_half n m - minus_half n m ≡ plus_half n m
plus_alone true m = omega arith
plus_alone false m = omega arith

pub plus_opposite : (n : Bool) (m : ℕ) → plus_half (ltb (minus_half n m) (plus_half n m)) (apart (minus_half n m) (plus_half n m)) ≡ minus_half n m
plus_opposite n m = plus_apart (minus_half n m) (plus_half n m) ∙ minus_alone n m

pub minus_opposite : (n : Bool) (m : ℕ) → minus_half (ltb (minus_half n m) (plus_half n m)) (apart (minus_half n m) (plus_half n m)) ≡ plus_half n m
minus_opposite n m = minus_apart (minus_half n m) (plus_half n m) ∙ plus_alone n m

-- the same of a dayTimeDuration
pub plus_ticks_opposite : (t : D.DayTime) → plus_ticks (opposite t) ≡ minus_ticks t
plus_ticks_opposite t = plus_less (minus_ticks t) (plus_ticks t) ∙ minus_alone t.negative (ticks_in t)

pub minus_ticks_opposite : (t : D.DayTime) → minus_ticks (opposite t) ≡ plus_ticks t
minus_ticks_opposite t = minus_less (minus_ticks t) (plus_ticks t) ∙ plus_alone t.negative (ticks_in t)

-- the opposite, through the spans that the code has in hand
pub opposite_made : (t : D.DayTime) (p q s : Span) (b : Bool) → p ≡ span_of (plus_ticks t) → q ≡ span_of (minus_ticks t)
    → b ≡ ltb (ticks_of q) (ticks_of p) → s ≡ span_of (ticks_in t) → duration_of b (ticks_of s) ≡ opposite t
opposite_made t p q s b ep eq eb es =
    let x : b ≡ ltb (minus_ticks t) (plus_ticks t) = eb ∙ spans_order q p (minus_ticks t) (plus_ticks t) eq ep in
    let y : ticks_of s ≡ apart (minus_ticks t) (plus_ticks t) = ticks_of_lem s (ticks_in t) es ∙ sym (opposite_size t.negative (ticks_in t)) in
    λ i. duration_of (x i) (y i)

pub opposite_ok : (t : D.DayTime) → ok_day_time t ≡ true → ok_value (VV.DayTime (opposite t)) ≡ true
unfolding ok_value
opposite_ok t e = less_ok (minus_ticks t) (plus_ticks t) (omega (arith, ticks_to t e, opposite_size t.negative (ticks_in t)))

pub opposite_months_ok : (m : Y.YearMonth) → ok_year_month m ≡ true → ok_value (VV.YearMonth (opposite_months m)) ≡ true
unfolding ok_value
opposite_months_ok m e =
    let h = signed_within max_year_month m.months m.negative e in
    let s = opposite_size m.negative m.months in
    difference_ok max_year_month (minus_half m.negative m.months) (plus_half m.negative m.months) (omega arith)

-- a product with a negative number, and with another
module _ (result : ℕ → ℕ → Answer Value) (negative : Bool) (n p q : ℕ) where
  pub times_minus : negative ≡ true → result (q * n) (p * n) ≡ signed_times result negative n p q
  times_minus e = sym (λ i. signed_times result (e i) n p q)

  pub times_plus : negative ≡ false → result (p * n) (q * n) ≡ signed_times result negative n p q
  times_plus e = sym (λ i. signed_times result (e i) n p q)

-- a duration's half times a factor: there is room for it, and its ticks
module _ (s : Span) (t n : ℕ) (e : s ≡ span_of t) where
  pub times_room : t ≤ max_day_time → n ≤ max_factor → (s.part < second_ticks) × (s.seconds * n + n < 2 ^ 64)
  times_room h k =
      let b : s.seconds ≤ max_day_time / second_ticks = omega (arith, seconds_of s t e) in
      let m = mul-le-mul_right n b in
      (part_of s t e, omega arith)

  pub times_ticks : (r : Span) → r ≡ span_of (ticks_of s * n) → r ≡ span_of (t * n)
  times_ticks r f = f ∙ ap (λ (x : ℕ). span_of (x * n)) (ticks_of_lem s t e)
