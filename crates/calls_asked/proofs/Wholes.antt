-- A whole number that was read: its digits reach the text's end, its sign stands before them, and beyond every factor it is
-- refused alike, however great it is.
use mathlib.Core.Path.{◌≡◌, refl, ap, sym, ◌∙◌}
use mathlib.Core.Bool.{Bool, true, false}
use mathlib.Core.List.{List}
use Prim.Native.Nat.{ℕ, ◌≤◌, ◌<◌, min}
use Prim.Native.Char.{code}
use native.Mathlib.Omega.{arith}
use lib.Dec.{eqb, leb}
use lib.ListN.{length}
use borrow.Author.Tests.{eq-eqb, ne_eqb, lt-leb, leb-true, leb-false}
use Rattle.basis.specs.Choice.{pick, both}
use Rattle.numerals.specs.Reading.{at, numeral_at}
use Rattle.numerals.specs.Carried.{Found}
use Rattle.numerals.specs.declared.DigitsRead.{DigitsRead}
use Rattle.numerals.proofs.Positions.{within}
use Rattle.value.specs.declared.Value.{Value}
use Rattle.value.specs.Kinds.{ok_value}
use Rattle.value.specs.Refusals.{outside}
use Rattle.basis.specs.Answer.{refuses}
use Rattle.operation_arithmetic.specs.Products as products
use Rattle.operation_arithmetic.specs.Products.{times_of, max_factor}
use Rattle.timetable.specs.Fields.{field_at}
use Rattle.calls_asked.specs.Asked.{has_minus, digits_from, is_whole, whole_magnitude}
use Rattle.calls_asked.specs.Carried.{beyond}

module _ (s : List ℕ) (i : ℕ) (r : DigitsRead) (f : Found s i beyond r) where
  pub no_digits : r.end ≡ i → false ≡ digits_from s i
  unfolding digits_from
  no_digits e = rw (eq-eqb (numeral_at s i).count 0 (omega (arith, f.ends)))

  pub some_digits : (r.end ≡ i → ⊥) → eqb r.end (length s) ≡ digits_from s i
  unfolding digits_from
  some_digits n =
      let z : eqb (numeral_at s i).count 0 ≡ false = ne_eqb (numeral_at s i).count 0 (λ e. n (omega (arith, f.ends))) in
      rw z (ap (λ (x : ℕ). eqb x (length s)) f.ends)

-- what stands after the sign
module _ (s : List ℕ) {b : ℕ} (e : b ≡ at s 0) where
  pub after_minus : b ≡ code "-" → 1 ≤ length s
  after_minus h = within s 0 (code "-") (sym e ∙ h) (omega arith)

  module _ {good negative : Bool} {magnitude : ℕ} where
    pub with_minus : b ≡ code "-" → (good ≡ digits_from s 1) × (negative ≡ true) × (magnitude ≡ min beyond (numeral_at s 1).value)
        → (good ≡ is_whole s) × (negative ≡ has_minus s) × (magnitude ≡ min beyond (whole_magnitude s))
    unfolding is_whole whole_magnitude
    with_minus h r =
        let m : has_minus s ≡ true = eq-eqb (at s 0) (code "-") (sym e ∙ h) in
        (r.0 ∙ sym (λ i. digits_from s (pick (m i) 1 0)), r.1 ∙ sym m, r.2 ∙ sym (λ i. min beyond (numeral_at s (pick (m i) 1 0)).value))

    pub without : (b ≡ code "-" → ⊥) → (good ≡ digits_from s 0) × (negative ≡ false) × (magnitude ≡ min beyond (numeral_at s 0).value)
        → (good ≡ is_whole s) × (negative ≡ has_minus s) × (magnitude ≡ min beyond (whole_magnitude s))
    unfolding is_whole whole_magnitude
    without h r =
        let m : has_minus s ≡ false = ne_eqb (at s 0) (code "-") (λ q. h (e ∙ q)) in
        (r.0 ∙ sym (λ i. digits_from s (pick (m i) 1 0)), r.1 ∙ sym m, r.2 ∙ sym (λ i. min beyond (numeral_at s (pick (m i) 1 0)).value))

-- a number that is kept short is refused where the number is
module _ (a : Value) (negative : Bool) where
  refused_beyond : (n : ℕ) → leb n max_factor ≡ false → times_of a negative n ≡ refuses outside
  unfolding times_of both
  refused_beyond n h = (λ i. pick (both (ok_value a) (h i)) (products.product_of a negative n) (refuses outside)) ∙ dead (ok_value a)
    where
      dead : (b : Bool) → pick (both b false) (products.product_of a negative n) (refuses outside) ≡ refuses outside
      dead true = refl
      dead false = refl

  pub kept_short : (n : ℕ) → times_of a negative (min beyond n) ≡ times_of a negative n
  kept_short n = go (leb n max_factor) refl
    where
      go : (b : Bool) → leb n max_factor ≡ b → times_of a negative (min beyond n) ≡ times_of a negative n
      go true h =
          let l : n ≤ max_factor = leb-true n max_factor h in
          let e : min beyond n ≡ n = omega arith in
          ap (times_of a negative) e
      go false h =
          let l : max_factor < n = leb-false n max_factor h in
          let e : max_factor < min beyond n = omega arith in
          refused_beyond (min beyond n) (lt-leb _ _ e) ∙ sym (refused_beyond n h)

pub times_said : (a : Value) {b : Bool} {m : ℕ} {f : List ℕ} (line : List ℕ) → b ≡ has_minus f → m ≡ min beyond (whole_magnitude f) → f ≡ field_at line 4
    → times_of a b m ≡ times_of a (has_minus (field_at line 4)) (whole_magnitude (field_at line 4))
times_said a {b} {m} {f} line eb em ef =
    (λ i. times_of a (eb i) (em i)) ∙ kept_short a (has_minus f) (whole_magnitude f) ∙ (λ i. times_of a (has_minus (ef i)) (whole_magnitude (ef i)))
