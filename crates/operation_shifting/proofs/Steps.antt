-- The steps of the code that a definition takes in one: a result before year 0, months moved.
use Rattle.std.specs.Prelude.{Option}
use mathlib.Core.Path.{◌≡◌, refl, ap, sym, ◌∙◌}
use mathlib.Core.Bool.{Bool, true, false}
use Prim.Native.Nat.{ℕ, ◌+◌, ◌-◌, ◌<◌}
use native.Mathlib.Omega.{arith}
use Rattle.basis.specs.Choice.{pick, both}
use Rattle.basis.specs.Answer.{gives, refuses}
use Rattle.calendar.specs.Calendar.{date_of, period_of}
use Rattle.value.specs.Refusals.{beyond_result, wrong_kind}
use Rattle.value.specs.Durations.{plus_half, minus_half}
use Rattle.value.specs.Rows.{is_dated, is_clocked}
use Rattle.value_instants.specs.Ticks.{local_of, in_years, placed_at}
use Rattle.value.specs.declared.DateTime.{DateTime}
use Rattle.value.specs.declared.Kind.{Kind}
use Rattle.value.specs.declared.Value.TheVariants.{Moment}
use Rattle.operation_quantities.specs.Results.{at_ticks}
use Rattle.operation_shifting.specs.Shifts.{month_of, moved_to, moved, wrapped, shifted}
use Rattle.operation_shifting.proofs.Halves.{taken_off}
use Rattle.value.specs.declared.Offset.{Offset}

-- 0 ticks and 0 months are in year 0
nothing_placed : (k : Kind) (z : Option Offset) → refuses beyond_result ≡ at_ticks k 0 z
unfolding at_ticks placed_at in_years both date_of period_of
nothing_placed k z = refl

nothing_moved : (k : Kind) (d : DateTime) → refuses beyond_result ≡ moved_to k d 0
unfolding moved_to both
nothing_moved k d = refl

pub before_ticks : (k : Kind) (z : Option Offset) (l m : ℕ) (n : Bool) → n ≡ true → l < m → refuses beyond_result ≡ at_ticks k (l + plus_half n m - minus_half n m) z
before_ticks k z l m n e h =
    let y : 0 ≡ l - m = omega arith in
    nothing_placed k z ∙ ap (λ (t : ℕ). at_ticks k t z) (y ∙ taken_off l m n e)

module _ (k : Kind) (d : DateTime) (p q : ℕ) (h : is_dated k ≡ true) where
  pub months_moved : (t : ℕ) → t ≡ month_of d + p - q → moved_to k d t ≡ moved k d p q
  unfolding moved
  months_moved t e = ap (moved_to k d) e ∙ sym (λ i. pick (h i) (moved_to k d (month_of d + p - q)) (refuses wrong_kind))

  pub before_months : 0 ≡ month_of d + p - q → refuses beyond_result ≡ moved k d p q
  before_months e = nothing_moved k d ∙ months_moved 0 e

-- a shift by the parts that a kind has: in local time, round the day, or none
pub dated_shift : (k : Kind) (d : DateTime) (p q : ℕ) → is_dated k ≡ true → shifted k d p q ≡ at_ticks k (local_of d + p - q) d.zone
unfolding shifted
dated_shift k d p q h =
    λ i. pick (h i) (at_ticks k (local_of d + p - q) d.zone) (pick (is_clocked k) (gives (Moment k (wrapped d p q))) (refuses wrong_kind))

module _ (k : Kind) (d : DateTime) (p q : ℕ) (h : is_dated k ≡ false) where
  by_the_clock : shifted k d p q ≡ pick (is_clocked k) (gives (Moment k (wrapped d p q))) (refuses wrong_kind)
  unfolding shifted
  by_the_clock =
      λ i. pick (h i) (at_ticks k (local_of d + p - q) d.zone) (pick (is_clocked k) (gives (Moment k (wrapped d p q))) (refuses wrong_kind))

  pub clocked_shift : is_clocked k ≡ true → shifted k d p q ≡ gives (Moment k (wrapped d p q))
  clocked_shift c = by_the_clock ∙ (λ i. pick (c i) (gives (Moment k (wrapped d p q))) (refuses wrong_kind))

  pub no_shift : is_clocked k ≡ false → refuses wrong_kind ≡ shifted k d p q
  no_shift c = sym (by_the_clock ∙ (λ i. pick (c i) (gives (Moment k (wrapped d p q))) (refuses wrong_kind)))

pub time_wrapped : (k : Kind) (d w : DateTime) (p q : ℕ) → is_dated k ≡ false → is_clocked k ≡ true → w ≡ wrapped d p q → gives (Moment k w) ≡ shifted k d p q
time_wrapped k d w p q h c e = (λ i. gives (Moment k (e i))) ∙ sym (clocked_shift k d p q h c)
