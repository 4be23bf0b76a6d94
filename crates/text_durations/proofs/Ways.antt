-- One law for each way through the reader of components.
use mathlib.Core.Path.{◌≡◌, refl, ap, sym, ◌∙◌}
use mathlib.Core.Bool.{Bool, true, false}
use mathlib.Core.List.{List}
use Prim.Native.Nat.{ℕ, ◌+◌, ◌≤◌}
use native.Mathlib.Omega.{arith}
use lib.Dec.{eqb}
use lib.ListN.{length}
use borrow.Author.Tests.{eq-eqb, ne_eqb, eqb-true}
use Rattle.basis.specs.Choice.{pick, both}
use Rattle.numerals.specs.declared.DigitsRead.{DigitsRead}
use Rattle.numerals.specs.declared.Fraction.{Fraction}
use Rattle.numerals.specs.Reading.{Number, numeral_at, at, fraction_at}
use Rattle.numerals.specs.Carried.{Found}
use Rattle.numerals.proofs.Positions.{within}
use Rattle.text_durations.specs.declared.Sums.{Sums}
use Rattle.text_durations.specs.declared.Walk.{Walk}
use Rattle.text_forms.specs.Forms.{weight, counts_months, seconds, point}
use Rattle.text_durations.specs.Walks.{counting, component, component_of, pointed, walk_taken, tried, taken_with}
use Rattle.text_durations.specs.Carried.{seconds_cap, capped_sums, Small, up_to}
use Rattle.text_forms.proofs.Weights.{weight_between}
use Rattle.text_durations.proofs.Capping.{number_capped, kept_sums, kept_whole, pointed_cap}

-- after a point
module _ (s : List ℕ) (c : ℕ) (t : Walk) (a : Sums) (i : ℕ) {f : Fraction} (e : f ≡ fraction_at s i) where
  the_point : pointed s c t a i f ≡ pointed s c t a i (fraction_at s i)
  the_point = ap (pointed s c t a i) e

  pub no_digit : f.end ≡ i → tried t f.end ≡ pointed s c t a i (fraction_at s i)
  no_digit q =
      ap (tried t) q
      ∙ sym (λ j. pick (eq-eqb f.end i q j) (tried t i) (pick (eqb (at s f.end) c) (taken_with t a f) (tried t f.end)))
      ∙ the_point

  module _ (q : f.end ≡ i → ⊥) where
    inner : pick (eqb (at s f.end) c) (taken_with t a f) (tried t f.end) ≡ pointed s c t a i (fraction_at s i)
    inner = sym (λ j. pick (ne_eqb f.end i q j) (tried t i) (pick (eqb (at s f.end) c) (taken_with t a f) (tried t f.end))) ∙ the_point

    pub not_closed : (at s f.end ≡ c → ⊥) → tried t f.end ≡ pointed s c t a i (fraction_at s i)
    not_closed g = sym (λ j. pick (ne_eqb (at s f.end) c g j) (taken_with t a f) (tried t f.end)) ∙ inner

    pub closed : at s f.end ≡ c → taken_with t a f ≡ pointed s c t a i (fraction_at s i)
    closed g = sym (λ j. pick (eq-eqb (at s f.end) c g j) (taken_with t a f) (tried t f.end)) ∙ inner

-- a component
module _ (s : List ℕ) (time : Bool) (c : ℕ) (t : Walk) (small : Small t.sums) (r : DigitsRead) (f : Found s t.at seconds_cap r) where
  abbrev Goal : Walk → Type 0
  Goal x = x ≡ up_to (component s time c t)

  pub absent : r.end ≡ t.at → Goal t
  unfolding component
  absent e =
      let z : eqb (numeral_at s t.at).count 0 ≡ true = eq-eqb (numeral_at s t.at).count 0 (omega (arith, f.ends)) in
      kept_whole t small ∙ sym (ap up_to (rw z))

  module _ (e : r.end ≡ t.at → ⊥) where
    some : eqb (numeral_at s t.at).count 0 ≡ false
    some = ne_eqb (numeral_at s t.at).count 0 (λ z. e (omega (arith, f.ends)))

    pub no_letter : (at s r.end ≡ c → ⊥) → both (eqb c seconds) (eqb (at s r.end) point) ≡ false → Goal (tried t r.end)
    unfolding component
    no_letter g h =
        rw (some, ← f.ends, ne_eqb (at s r.end) c g, h)
        (λ i. record { sums = kept_sums t.sums small i; ticks = t.ticks; long = t.long; at = t.at; far = r.end })

    module _ {v : Sums} (ev : v ≡ capped_sums (counting time c r.value t.sums)) where
      total : v ≡ capped_sums (counting time c (numeral_at s t.at).value t.sums)
      total =
          ev
          ∙ ap (λ (n : ℕ). capped_sums (counting time c n t.sums)) f.capped
          ∙ number_capped (counts_months time c) (weight time c) (numeral_at s t.at).value t.sums (weight_between time c).0

      pub a_part : at s r.end ≡ c → Goal (walk_taken t v (r.end + 1))
      unfolding component
      a_part g =
          rw (some, ← f.ends, eq-eqb (at s r.end) c g)
          (λ i. record { sums = total i; ticks = t.ticks; long = t.long; at = r.end + 1; far = r.end + 1 })

      pub with_point : (at s r.end ≡ c → ⊥) → c ≡ seconds → at s r.end ≡ point → Goal (pointed s c t v (r.end + 1) (fraction_at s (r.end + 1)))
      unfolding component both
      with_point g a b =
          let i : ℕ = r.end + 1 in
          let x : Fraction = fraction_at s i in
          rw (some, ← f.ends, ne_eqb (at s r.end) c g, eq-eqb c seconds a, eq-eqb (at s r.end) point b)
          ((λ j. pointed s c (kept_whole t small j) (total j) i x) ∙ sym (pointed_cap s c t (counting time c (numeral_at s t.at).value t.sums) i x))

-- a component stays within the text
pub component_le : (s : List ℕ) (time : Bool) (c : ℕ) (t : Walk) → t.at ≤ length s → 1 ≤ c → (component s time c t).at ≤ length s
unfolding component
component_le s time c t h hc = go (numeral_at s t.at) refl
  where
    deep : (v : Sums) (i : ℕ) (f : Fraction) → (pointed s c t v i f).at ≤ length s
    deep v i f = by (eqb f.end i) (eqb (at s f.end) c) refl refl
      where
        by : (a b : Bool) → eqb f.end i ≡ a → eqb (at s f.end) c ≡ b → (pointed s c t v i f).at ≤ length s
        by true b x y = rw x h
        by false true x y = rw (x, y) (omega (arith, within s f.end c (eqb-true _ _ y) hc))
        by false false x y = rw (x, y) h

    go : (n : Number) → n ≡ numeral_at s t.at → (component_of s time c t n).at ≤ length s
    go n e = by (eqb n.count 0) (eqb (at s (t.at + n.count)) c) (both (eqb c seconds) (eqb (at s (t.at + n.count)) point)) refl refl refl
      where
        by : (a b d : Bool) → eqb n.count 0 ≡ a → eqb (at s (t.at + n.count)) c ≡ b → both (eqb c seconds) (eqb (at s (t.at + n.count)) point) ≡ d
            → (component_of s time c t n).at ≤ length s
        by true b d x y z = rw x h
        by false true d x y z = rw (x, y) (omega (arith, within s (t.at + n.count) c (eqb-true _ _ y) hc))
        by false false true x y z = rw (x, y, z) (deep (counting time c n.value t.sums) (t.at + n.count + 1) (fraction_at s (t.at + n.count + 1)))
        by false false false x y z = rw (x, y, z) h

-- no point follows, or the letter has no fraction
pub no_point : (c : ℕ) {x b : ℕ} → x ≡ b → (x ≡ point → ⊥) → both (eqb c seconds) (eqb b point) ≡ false
unfolding both
no_point c {x} {b} q e = by (eqb c seconds)
  where
    by : (y : Bool) → both y (eqb b point) ≡ false
    by true = ne_eqb b point (λ z. e (q ∙ z))
    by false = refl

pub no_seconds : (c : ℕ) {x b : ℕ} → x ≡ b → (c ≡ seconds → ⊥) → both (eqb c seconds) (eqb b point) ≡ false
unfolding both
no_seconds c q e = rw (ne_eqb c seconds e)
