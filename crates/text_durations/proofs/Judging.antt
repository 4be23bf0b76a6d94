-- The checks of a shape, one law for each way out, and what a shape that passes them counts.
use Rattle.std.specs.Prelude.{Err, Ok, Result}
use mathlib.Core.Path.{◌≡◌, refl, ap, sym, ◌∙◌}
use mathlib.Core.Bool.{Bool, true, false}
use Prim.Native.Nat.{ℕ, ◌+◌, ◌*◌, ◌≤◌, ◌<◌}
use lib.Dec.{leb}
use borrow.Author.Tests.{le-leb, lt-leb}
use Rattle.basis.specs.Choice.{pick, both}
use Rattle.basis.specs.Answer.{Answer, gives, refuses_for, refuses}
use Rattle.value.specs.Bounds.{second_ticks, max_day_time, max_year_month}
use Rattle.value.specs.Reasons.{refusal_of}
use Rattle.value.proofs.Answers.{refusal_back}
use Rattle.value.specs.Refusals.{bad_text, beyond_bounds, long_fraction}
use Rattle.text_durations.specs.declared.Sums.{Sums}
use Rattle.text_durations.specs.declared.Shape.{Shape}
use Rattle.text_durations.specs.declared.Amount.{Amount}
use Rattle.text_durations.specs.Walks.{is_nothing, within_bounds, counted, signed_amount}
use Rattle.text_durations.specs.Carried.{count_meaning}
use Rattle.value.specs.declared.Refusal.{Refusal}

-- each part against its bound
module _ (a : Sums) (ticks : ℕ) where
  pub more_months : max_year_month < a.months → false ≡ within_bounds a ticks
  unfolding both
  more_months h = sym (λ i. both (lt-leb a.months max_year_month h i) (leb (a.seconds * second_ticks + ticks) max_day_time))

  pub few_months : a.months ≤ max_year_month → {b : Bool} → b ≡ leb (a.seconds * second_ticks + ticks) max_day_time → b ≡ within_bounds a ticks
  unfolding both
  few_months h e = e ∙ sym (λ i. both (le-leb a.months max_year_month h i) (leb (a.seconds * second_ticks + ticks) max_day_time))

-- the checks in their order
module _ (t : Shape) where
  -- the second and third check, and the third
  abbrev third : Bool → Answer Amount
  third b = pick b (gives (signed_amount t.negative t.sums t.ticks)) (refuses beyond_bounds)

  abbrev second : Answer Amount
  second = pick t.long (refuses long_fraction) (third (within_bounds t.sums t.ticks))

  pub no_shape : t.good ≡ false → refuses bad_text ≡ counted t
  unfolding counted
  no_shape e = sym (λ i. pick (e i) second (refuses bad_text))

  module _ (g : t.good ≡ true) where
    shaped : second ≡ counted t
    unfolding counted
    shaped = sym (λ i. pick (g i) second (refuses bad_text))

    pub too_long : t.long ≡ true → refuses long_fraction ≡ counted t
    too_long e = sym (λ i. pick (e i) (refuses long_fraction) (third (within_bounds t.sums t.ticks))) ∙ shaped

    module _ (l : t.long ≡ false) where
      short : third (within_bounds t.sums t.ticks) ≡ counted t
      short = sym (λ i. pick (l i) (refuses long_fraction) (third (within_bounds t.sums t.ticks))) ∙ shaped

      pub too_great : within_bounds t.sums t.ticks ≡ false → refuses beyond_bounds ≡ counted t
      too_great h = sym (λ i. third (h i)) ∙ short

      module _ (h : within_bounds t.sums t.ticks ≡ true) where
        pub is_within : gives (signed_amount t.negative t.sums t.ticks) ≡ counted t
        is_within = sym (λ i. third (h i)) ∙ short

        pub is_zero : is_nothing t.sums t.ticks ≡ true → gives (record { negative = false; sums = t.sums; ticks = t.ticks }) ≡ counted t
        is_zero z = sym (λ i. gives (record { negative = pick (z i) false t.negative; sums = t.sums; ticks = t.ticks })) ∙ is_within

        pub is_some : is_nothing t.sums t.ticks ≡ false → gives (record { negative = t.negative; sums = t.sums; ticks = t.ticks }) ≡ counted t
        is_some z = sym (λ i. gives (record { negative = pick (z i) false t.negative; sums = t.sums; ticks = t.ticks })) ∙ is_within

-- a count is its meaning
abbrev count_of : Answer Amount → Result Amount Refusal
count_of (gives a) = Ok a
count_of (refuses_for r) = Err (refusal_of r)

count_back : (c : Result Amount Refusal) → count_of (count_meaning c) ≡ c
count_back (Ok a) = refl
count_back (Err r) = ap Err (refusal_back r)

pub count_determined : (a b : Result Amount Refusal) → count_meaning a ≡ count_meaning b → a ≡ b
count_determined a b e = cc (ap count_of e, count_back a, count_back b)
