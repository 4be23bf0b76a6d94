-- A difference is within its kind's bounds exactly where its magnitude is at most the bound.
use mathlib.Core.Path.{◌≡◌, refl, sym, ◌∙◌}
use mathlib.Core.Bool.{Bool, true, false}
use Prim.Native.Nat.{ℕ, ◌-◌, ◌≤◌, ◌<◌}
use lib.Dec.{leb, ltb}
use borrow.Author.Tests.{ltb-true, ltb-false, leb-true}
use Rattle.basis.specs.Choice.{pick}
use Rattle.basis.specs.Answer.{Answer, gives, refuses}
use Rattle.basis.proofs.Tests.{every_fails}
use Rattle.value.specs.Bounds.{max_day_time, max_year_month}
use Rattle.value.specs.Clocks.{duration_of}
use Rattle.value.specs.Refusals.{beyond_result}
use Rattle.value.specs.Values.{ok_signed}
use Rattle.value.specs.Durations.{apart, less_ticks, less_months}
use Rattle.value.specs.Carried.{ticks_of, span_of}
use Rattle.value.specs.declared.DayTime.{DayTime}
use Rattle.value.specs.declared.Span.{Span}
use Rattle.value.specs.declared.Value.{Value}
use Rattle.value.specs.declared.Value.TheVariants as VV
use Rattle.value.proofs.ClockLaws.{day_time_is}
use Rattle.value.proofs.Signs.{difference_ok, apart_below, apart_above}
use Rattle.operation_quantities.specs.Results.{in_ticks, in_months}
use Rattle.operation_quantities.proofs.Spanned.{ticks_of_lem}

pub bounded : (bound p q : ℕ) → ok_signed bound (ltb p q) (apart p q) ≡ leb (apart p q) bound
unfolding ok_signed
bounded bound p q = go (leb (apart p q) bound) refl
  where
    go : (b : Bool) → leb (apart p q) bound ≡ b → ok_signed bound (ltb p q) (apart p q) ≡ leb (apart p q) bound
    go true e = difference_ok bound p q (leb-true (apart p q) bound e) ∙ sym e
    go false e = every_fails (leb (apart p q) bound) _ e ∙ sym e

-- a sign and a magnitude with its test, as the code makes them
abbrev made_ticks : Bool → ℕ → Answer Value
made_ticks n a = pick (leb a max_day_time) (gives (VV.DayTime (duration_of n a))) (refuses beyond_result)

abbrev made_months : Bool → ℕ → Answer Value
made_months n a = pick (leb a max_year_month) (gives (VV.YearMonth (record { negative = n; months = a }))) (refuses beyond_result)

module _ (p q : ℕ) (n : Bool) (a : ℕ) (en : ltb p q ≡ n) (ea : apart p q ≡ a) where
  pub ticks_made : made_ticks n a ≡ in_ticks p q
  unfolding in_ticks
  ticks_made =
      (λ i. made_ticks (sym en i) (sym ea i))
      ∙ (λ i. pick (sym (day_time_is (ltb p q) (apart p q) ∙ bounded max_day_time p q) i) (gives (VV.DayTime (less_ticks p q))) (refuses beyond_result))

  pub months_made : made_months n a ≡ in_months p q
  unfolding in_months
  months_made =
      (λ i. made_months (sym en i) (sym ea i))
      ∙ (λ i. pick (sym (bounded max_year_month p q) i) (gives (VV.YearMonth (less_months p q))) (refuses beyond_result))

pub months_below : (p q : ℕ) → p < q → made_months true (q - p) ≡ in_months p q
months_below p q h = months_made p q true (q - p) (apart_below p q h).0 (apart_below p q h).1

pub months_above : (p q : ℕ) → q ≤ p → made_months false (p - q) ≡ in_months p q
months_above p q h = months_made p q false (p - q) (apart_above p q h).0 (apart_above p q h).1

module _ (p q s : Span) where
  pub ticks_below : ltb (ticks_of p) (ticks_of q) ≡ true → s ≡ span_of (ticks_of q - ticks_of p) → made_ticks true (ticks_of s) ≡ in_ticks (ticks_of p) (ticks_of q)
  ticks_below e f =
      let h = apart_below (ticks_of p) (ticks_of q) (ltb-true _ _ e) in
      ticks_made (ticks_of p) (ticks_of q) true (ticks_of s) e (h.1 ∙ sym (ticks_of_lem s (ticks_of q - ticks_of p) f))

  pub ticks_above : ltb (ticks_of p) (ticks_of q) ≡ false → s ≡ span_of (ticks_of p - ticks_of q) → made_ticks false (ticks_of s) ≡ in_ticks (ticks_of p) (ticks_of q)
  ticks_above e f =
      let h = apart_above (ticks_of p) (ticks_of q) (ltb-false _ _ e) in
      ticks_made (ticks_of p) (ticks_of q) false (ticks_of s) e (h.1 ∙ sym (ticks_of_lem s (ticks_of p - ticks_of q) f))

-- a size beyond the bound, and one within it
pub beyond_refused : (n : Bool) (a : ℕ) → leb a max_day_time ≡ false → refuses beyond_result ≡ made_ticks n a
beyond_refused n a t = sym (λ i. pick (t i) (gives (VV.DayTime (duration_of n a))) (refuses beyond_result))

pub within_made : (n : Bool) (a : ℕ) (d : DayTime) → leb a max_day_time ≡ true → d ≡ duration_of n a → gives (VV.DayTime d) ≡ made_ticks n a
within_made n a d t g =
    (λ i. gives (VV.DayTime (g i))) ∙ sym (λ i. pick (t i) (gives (VV.DayTime (duration_of n a))) (refuses beyond_result))
