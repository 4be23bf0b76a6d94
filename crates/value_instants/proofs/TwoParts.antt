-- A span of whole seconds and a part is its number of ticks: order, sum, difference and product part by part.
use mathlib.Core.Path.{◌≡◌, refl, ap, sym, ◌∙◌}
use Prim.Native.Nat.{ℕ, ◌+◌, ◌-◌, ◌*◌, ◌/◌, ◌%◌, ◌≤◌, ◌<◌}
use native.Mathlib.Nat.{add-mul, mul_right_comm, mul-le-mul_right}
use native.Mathlib.Omega.{arith}
use lib.Dec.{ltb}
use borrow.Author.Tests.{lt-ltb, le-ltb, ltb-true, ltb-false}
use mathlib.Core.Bool.{Bool, true, false}
use Rattle.value.specs.Bounds.{second_ticks, day_ticks}
use Rattle.value_instants.specs.Ticks.{instant_at}
use Rattle.value.specs.Carried.{span_of}
use Rattle.value.proofs.Spans.{span_is}
use Rattle.value.specs.declared.Offset.{Offset}
use Rattle.value.specs.declared.Offset.TheVariants.{East, West}
use Rattle.value.specs.declared.Span.{Span}

-- spans of equally many seconds are in the order of their parts
pub order_by_part : (s t p q : ℕ) → s ≡ t → ltb p q ≡ ltb (s * second_ticks + p) (t * second_ticks + q)
order_by_part s t p q e = go (ltb p q) refl
  where
    go : (b : Bool) → ltb p q ≡ b → ltb p q ≡ ltb (s * second_ticks + p) (t * second_ticks + q)
    go true h = let k = ltb-true p q h in h ∙ sym (lt-ltb (s * second_ticks + p) (t * second_ticks + q) (omega arith))
    go false h = let k = ltb-false p q h in h ∙ sym (le-ltb (s * second_ticks + p) (t * second_ticks + q) (omega arith))

-- a part times a number is below that number's seconds
pub part_product : (p n : ℕ) → p < second_ticks → p * n ≤ second_ticks * n
part_product p n h = mul-le-mul_right n (omega arith)

pub product_by_parts : (s p n : ℕ) → record { seconds = s * n + p * n / second_ticks; part = p * n % second_ticks } ≡ span_of ((s * second_ticks + p) * n)
product_by_parts s p n =
    let e : (s * second_ticks + p) * n ≡ s * n * second_ticks + p * n = add-mul (s * second_ticks) p n ∙ ap (λ (x : ℕ). x + p * n) (mul_right_comm s second_ticks n) in
    span_is (s * n + p * n / second_ticks) (p * n % second_ticks) ((s * second_ticks + p) * n) (omega arith) (omega arith)

-- a number of days, and a span within a day
pub days_and_span : (n u : ℕ) (s : Span) → s ≡ span_of u → record { seconds = n * 86400 + s.seconds; part = s.part } ≡ span_of (n * day_ticks + u)
days_and_span n u s e =
    let es : s.seconds ≡ u / second_ticks = ap (λ (x : Span). x.seconds) e in
    let ep : s.part ≡ u % second_ticks = ap (λ (x : Span). x.part) e in
    span_is (n * 86400 + s.seconds) s.part (n * day_ticks + u) (omega arith) (omega arith)

-- a local time at an offset east or west of UTC
pub span_east : (s p m : ℕ) (o : Offset) → p < second_ticks → m * 60 ≤ s → o ≡ East m → record { seconds = s - m * 60; part = p } ≡ span_of (instant_at (s * second_ticks + p) o)
span_east s p m o h k e = span_is (s - m * 60) p (instant_at (s * second_ticks + p) (East m)) h (omega arith) ∙ (λ i. span_of (instant_at (s * second_ticks + p) (sym e i)))

pub span_west : (s p m : ℕ) (o : Offset) → p < second_ticks → o ≡ West m → record { seconds = s + m * 60; part = p } ≡ span_of (instant_at (s * second_ticks + p) o)
span_west s p m o h e = span_is (s + m * 60) p (instant_at (s * second_ticks + p) (West m)) h (omega arith) ∙ (λ i. span_of (instant_at (s * second_ticks + p) (sym e i)))
