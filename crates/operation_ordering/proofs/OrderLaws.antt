-- The order is total and transitive over the values of a kind, and equality is that of the instants, or of the numbers of
-- durations.
use mathlib.Core.Path.{◌≡◌, refl, ap, sym, ◌∙◌}
use mathlib.Core.Bool.{Bool, true, false}
use Prim.Native.Nat.{ℕ, ◌+◌, ◌<◌}
use native.Mathlib.Omega.{arith}
use lib.Dec.{ltb}
use borrow.Author.Tests.{ltb-true, ltb-false, lt-ltb, le-ltb, eq-eqb, eqb-true}
use Rattle.basis.specs.Choice.{pick, both}
use Rattle.basis.specs.Answer.{gives, refuses}
use Rattle.basis.proofs.Tests.{both_left, both_right, both_true}
use Rattle.value.specs.Bounds.{max_day_time, max_year_month}
use Rattle.value.specs.Refusals.{outside, wrong_kind}
use Rattle.value.specs.Clocks.{ticks_in}
use Rattle.value.specs.Durations.{plus_half, minus_half}
use Rattle.value.specs.Values.{ok_signed, ok_offset}
use Rattle.value.specs.Rows.{kind_number, same_kind}
use Rattle.value.specs.Kinds.{kind_of, ok_value}
use Rattle.value_instants.specs.Ticks.{instant_of}
use Rattle.value.specs.declared.Offset.{Offset}
use Rattle.value.specs.declared.DateTime.{DateTime}
use Rattle.value.specs.declared.DayTime as D
use Rattle.value.specs.declared.YearMonth as Y
use Rattle.value.specs.declared.Kind.{Kind}
use Rattle.value.specs.declared.Value.{Value}
use Rattle.value.specs.declared.Value.TheVariants as VV
use Rattle.value.proofs.ClockLaws.{one_duration, day_time_signed}
use Rattle.value.proofs.Signs.{same_difference, signed_back}
use Rattle.operation_quantities.proofs.Given.{given_test, given_rest, gives_same}
use Rattle.operation_ordering.specs.Order.{Order, less, equal, greater, up, down, order, value_order, order_in, order_for}

-- a zone within the bounds is the one that values without zone count in
pub order_in_zone : (zone : Offset) (a b : Value) → ok_offset zone ≡ true → order_for zone a b ≡ order_in zone a b
unfolding order_for
order_in_zone zone a b h = rw h

-- the order of two numbers, both ways
less_order : (p q : ℕ) → p < q → order p q ≡ less
less_order p q h = λ i. pick (lt-ltb p q h i) less (pick (ltb q p) greater equal)

equal_order : (p q : ℕ) → p ≡ q → order p q ≡ equal
equal_order p q e =
    let a = le-ltb p q (omega arith) in
    let b = le-ltb q p (omega arith) in
    λ i. pick (a i) less (pick (b i) greater equal)

greater_order : (p q : ℕ) → q < p → order p q ≡ greater
greater_order p q h =
    let a = le-ltb p q (omega arith) in
    let b = lt-ltb q p h in
    λ i. pick (a i) less (pick (b i) greater equal)

order_less : (p q : ℕ) → order p q ≡ less → p < q
order_less p q = go (ltb p q) (ltb q p) refl
  where
    go : (a b : Bool) → ltb p q ≡ a → pick a less (pick b greater equal) ≡ less → p < q
    go true b h e = ltb-true p q h
    go false true h e = let n : ◌≡◌ {A = ℕ} 0 1 = cc in omega arith
    go false false h e = let n : ◌≡◌ {A = ℕ} 0 1 = cc in omega arith

order_equal : (p q : ℕ) → order p q ≡ equal → p ≡ q
order_equal p q = go (ltb p q) (ltb q p) refl refl
  where
    go : (a b : Bool) → ltb p q ≡ a → ltb q p ≡ b → pick a less (pick b greater equal) ≡ equal → p ≡ q
    go true b h k e = let n : ◌≡◌ {A = ℕ} 0 1 = cc in omega arith
    go false true h k e = let n : ◌≡◌ {A = ℕ} 0 1 = cc in omega arith
    go false false h k e =
        let x = ltb-false p q h in
        let y = ltb-false q p k in
        omega arith

order_greater : (p q : ℕ) → order p q ≡ greater → q < p
order_greater p q = go (ltb p q) (ltb q p) refl refl
  where
    go : (a b : Bool) → ltb p q ≡ a → ltb q p ≡ b → pick a less (pick b greater equal) ≡ greater → q < p
    go true b h k e = let n : ◌≡◌ {A = ℕ} 0 1 = cc in omega arith
    go false true h k e = ltb-true q p k
    go false false h k e = let n : ◌≡◌ {A = ℕ} 0 1 = cc in omega arith

-- a number has one sign and one magnitude
one_number : (bound m n : ℕ) (a b : Bool) → ok_signed bound a m ≡ true → ok_signed bound b n ≡ true
    → plus_half a m + minus_half b n ≡ plus_half b n + minus_half a m → (a ≡ b) × (m ≡ n)
one_number bound m n a b g h e =
    let x = signed_back bound m a g in
    let y = signed_back bound n b h in
    let z = same_difference (plus_half a m) (minus_half a m) (plus_half b n) (minus_half b n) e in
    (sym x.0 ∙ z.0 ∙ y.0, sym x.1 ∙ z.1 ∙ y.1)

-- values that have an order: both within the bounds, and of one kind
pub record Comparable (a b : Value) : Type 0 where
  pub left_ok : ok_value a ≡ true
  pub right_ok : ok_value b ≡ true
  pub same : same_kind (kind_of a) (kind_of b) ≡ true

module _ (o : Offset) where
  -- any two values of a kind have exactly one of the three orders
  pub ordered : (a b : Value) → Comparable a b → order_in o a b ≡ gives (value_order o a b)
  unfolding order_in
  ordered a b c =
      let t : both (ok_value a) (ok_value b) ≡ true = both_true _ _ c.left_ok c.right_ok in
      (λ i. pick (t i) (pick (same_kind (kind_of a) (kind_of b)) (gives (value_order o a b)) (refuses wrong_kind)) (refuses outside))
      ∙ (λ i. pick (c.same i) (gives (value_order o a b)) (refuses wrong_kind))

  module _ (a b : Value) (r : Order) (e : order_in o a b ≡ gives r) where
    pub comparable : Comparable a b
    unfolding order_in
    comparable =
        let t = given_test (both (ok_value a) (ok_value b)) (pick (same_kind (kind_of a) (kind_of b)) (gives (value_order o a b)) (refuses wrong_kind)) outside r e in
        let f = given_rest (both (ok_value a) (ok_value b)) (pick (same_kind (kind_of a) (kind_of b)) (gives (value_order o a b)) (refuses wrong_kind)) outside r e in
        record {
          left_ok = both_left _ _ t;
          right_ok = both_right _ _ t;
          same = given_test (same_kind (kind_of a) (kind_of b)) (gives (value_order o a b)) wrong_kind r f;
        }

    order_of : value_order o a b ≡ r
    order_of = gives_same _ _ (sym (ordered a b comparable) ∙ e)

  over : (a b c : Value) → Comparable a b → Comparable b c → Comparable a c
  over a b c g h =
      record {
        left_ok = g.left_ok;
        right_ok = h.right_ok;
        same = eq-eqb (kind_number (kind_of a)) (kind_number (kind_of c)) (eqb-true (kind_number (kind_of a)) (kind_number (kind_of b)) g.same ∙ eqb-true (kind_number (kind_of b)) (kind_number (kind_of c)) h.same);
      }

  turned : (a b : Value) → Comparable a b → Comparable b a
  turned a b g =
      record {
        left_ok = g.right_ok;
        right_ok = g.left_ok;
        same = eq-eqb (kind_number (kind_of b)) (kind_number (kind_of a)) (sym (eqb-true (kind_number (kind_of a)) (kind_number (kind_of b)) g.same));
      }

  -- the sides that are compared
  abbrev side : Value → Value → ℕ
  side a b = up o a + down o b

  pub equal_itself : (a : Value) → ok_value a ≡ true → order_in o a a ≡ gives equal
  equal_itself a g =
      ordered a a (record { left_ok = g; right_ok = g; same = eq-eqb (kind_number (kind_of a)) (kind_number (kind_of a)) refl })
      ∙ ap gives (equal_order (side a a) (side a a) refl)

  pub less_turned : (a b : Value) → order_in o a b ≡ gives less → order_in o b a ≡ gives greater
  less_turned a b e =
      ordered b a (turned a b (comparable a b less e))
      ∙ ap gives (greater_order (side b a) (side a b) (order_less (side a b) (side b a) (order_of a b less e)))

  pub greater_turned : (a b : Value) → order_in o a b ≡ gives greater → order_in o b a ≡ gives less
  greater_turned a b e =
      ordered b a (turned a b (comparable a b greater e))
      ∙ ap gives (less_order (side b a) (side a b) (order_greater (side a b) (side b a) (order_of a b greater e)))

  pub equal_turned : (a b : Value) → order_in o a b ≡ gives equal → order_in o b a ≡ gives equal
  equal_turned a b e =
      ordered b a (turned a b (comparable a b equal e))
      ∙ ap gives (equal_order (side b a) (side a b) (sym (order_equal (side a b) (side b a) (order_of a b equal e))))

  pub less_transitive : (a b c : Value) → order_in o a b ≡ gives less → order_in o b c ≡ gives less → order_in o a c ≡ gives less
  less_transitive a b c e f =
      let x = order_less (side a b) (side b a) (order_of a b less e) in
      let y = order_less (side b c) (side c b) (order_of b c less f) in
      ordered a c (over a b c (comparable a b less e) (comparable b c less f)) ∙ ap gives (less_order (side a c) (side c a) (omega arith))

  pub equal_transitive : (a b c : Value) → order_in o a b ≡ gives equal → order_in o b c ≡ gives equal → order_in o a c ≡ gives equal
  equal_transitive a b c e f =
      let x = order_equal (side a b) (side b a) (order_of a b equal e) in
      let y = order_equal (side b c) (side c b) (order_of b c equal f) in
      ordered a c (over a b c (comparable a b equal e) (comparable b c equal f)) ∙ ap gives (equal_order (side a c) (side c a) (omega arith))

  pub less_equal : (a b c : Value) → order_in o a b ≡ gives less → order_in o b c ≡ gives equal → order_in o a c ≡ gives less
  less_equal a b c e f =
      let x = order_less (side a b) (side b a) (order_of a b less e) in
      let y = order_equal (side b c) (side c b) (order_of b c equal f) in
      ordered a c (over a b c (comparable a b less e) (comparable b c equal f)) ∙ ap gives (less_order (side a c) (side c a) (omega arith))

  pub equal_less : (a b c : Value) → order_in o a b ≡ gives equal → order_in o b c ≡ gives less → order_in o a c ≡ gives less
  equal_less a b c e f =
      let x = order_equal (side a b) (side b a) (order_of a b equal e) in
      let y = order_less (side b c) (side c b) (order_of b c less f) in
      ordered a c (over a b c (comparable a b equal e) (comparable b c less f)) ∙ ap gives (less_order (side a c) (side c a) (omega arith))

  -- equal dates, times and dateTimes have one instant, and values of one kind and instant are equal
  module _ (a b : Value) (k : Kind) (d e : DateTime) (ea : a ≡ VV.Moment k d) (eb : b ≡ VV.Moment k e) where
    sides : (side a b ≡ instant_of o d) × (side b a ≡ instant_of o e)
    unfolding up down
    sides =
        let pa : up o a ≡ instant_of o d = ap (up o) ea in
        let qa : down o a ≡ 0 = ap (down o) ea in
        let pb : up o b ≡ instant_of o e = ap (up o) eb in
        let qb : down o b ≡ 0 = ap (down o) eb in
        (omega arith, omega arith)

    pub equal_instants : order_in o a b ≡ gives equal → instant_of o d ≡ instant_of o e
    equal_instants f = sym sides.0 ∙ order_equal (side a b) (side b a) (order_of a b equal f) ∙ sides.1

    pub instants_equal : Comparable a b → instant_of o d ≡ instant_of o e → order_in o a b ≡ gives equal
    instants_equal c f = ordered a b c ∙ ap gives (equal_order (side a b) (side b a) (sides.0 ∙ f ∙ sym sides.1))

  -- equal durations are one duration
  pub equal_day_times : (s t : D.DayTime) → order_in o (VV.DayTime s) (VV.DayTime t) ≡ gives equal → s ≡ t
  unfolding up down ok_value
  equal_day_times s t e =
      let c = comparable (VV.DayTime s) (VV.DayTime t) equal e in
      let x = order_equal (side (VV.DayTime s) (VV.DayTime t)) (side (VV.DayTime t) (VV.DayTime s)) (order_of (VV.DayTime s) (VV.DayTime t) equal e) in
      let r = one_number max_day_time (ticks_in s) (ticks_in t) s.negative t.negative (day_time_signed s c.left_ok) (day_time_signed t c.right_ok) x in
      one_duration s t c.left_ok c.right_ok r.0 r.1

  pub equal_year_months : (s t : Y.YearMonth) → order_in o (VV.YearMonth s) (VV.YearMonth t) ≡ gives equal → s ≡ t
  unfolding up down ok_value
  equal_year_months s t e =
      let c = comparable (VV.YearMonth s) (VV.YearMonth t) equal e in
      let x = order_equal (side (VV.YearMonth s) (VV.YearMonth t)) (side (VV.YearMonth t) (VV.YearMonth s)) (order_of (VV.YearMonth s) (VV.YearMonth t) equal e) in
      let r = one_number max_year_month s.months t.months s.negative t.negative c.left_ok c.right_ok x in
      λ i. record { negative = r.0 i; months = r.1 i }
