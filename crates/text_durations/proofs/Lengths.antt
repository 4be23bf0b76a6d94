-- How long a duration's text can be: never more than the longest text has room for, in any form that passes.
use mathlib.Core.Path.{◌≡◌, refl, ap}
use mathlib.Core.Bool.{Bool, true, false}
use mathlib.Core.List.{List, [], ◌∷◌, ◌++◌}
use Prim.Native.Nat.{ℕ, zero, suc, ◌+◌, ◌/◌, ◌^◌, ◌≤◌, ◌<◌}
use native.Mathlib.Nat.{pow-suc, le-div_iff_mul-le, div-mul-le_self, mod-lt}
use native.Mathlib.Omega.{arith}
use lib.Dec.{eqb, ltb}
use lib.ListN.{length, length-append}
use borrow.Author.Tests.{ltb-true}
use Rattle.basis.specs.Choice.{pick}
use Rattle.value.specs.Kinds.{kind_of, ok_value}
use Rattle.value.specs.declared.Value.{Value}
use Rattle.numerals.specs.Reading.{fraction_digits}
use Rattle.numerals.specs.Writing.{decimal, fraction_text, longest}
use Rattle.numerals.proofs.Powers.{few_digits}
use Rattle.numerals.proofs.Decimals.{decimal_le}
use Rattle.numerals.proofs.Fractions.{fraction_short, no_fraction}
use Rattle.text_durations.specs.declared.Sums.{Sums}
use Rattle.text_durations.specs.declared.Amount.{Amount}
use Rattle.text_forms.specs.Forms.{Form, seconds, weight, counts_months, time_mark, duration_form}
use Rattle.text_durations.specs.Walks.{is_nothing}
use Rattle.text_durations.specs.Spelling.{fraction_in, shown, one_sum, remainder_of, share_of, rest_of, shown_all, left, after_mark, body, spelt, duration_text, amount_of, duration_text_of}
use Rattle.text_forms.proofs.Weights.{weight_between}
use Rattle.text_durations.proofs.Written.{body_length}
use Rattle.text_durations.proofs.FormTests.{width_to, most_sums, most_rest, most_shown, most_all, most_left, most_bytes, Sane, sane_row}
use Rattle.text_durations.proofs.Valid.{Good, months_within, seconds_within}
use Rattle.text_durations.proofs.Amounts.{value_good}

-- a component of k digits, with a letter and the fraction that it may have
shown_short : (k c n ticks : ℕ) → 1 ≤ k → n < 10 ^ k → length (shown c n ticks) ≤ k + (length (fraction_text (fraction_in c ticks)) + 1)
unfolding shown
shown_short k c n ticks h l = go (eqb (n + fraction_in c ticks) 0)
  where
    go : (b : Bool) → length (pick b [] (decimal n ++ (fraction_text (fraction_in c ticks) ++ c ∷ []))) ≤ k + (length (fraction_text (fraction_in c ticks)) + 1)
    go true = omega arith
    go false = omega (arith, length-append (decimal n) (fraction_text (fraction_in c ticks) ++ c ∷ []), length-append (fraction_text (fraction_in c ticks)) (c ∷ []), decimal_le k n h l)

-- a number has the digits that were counted
width_room : (k n : ℕ) → n < 10 ^ width_to k n
unfolding width_to
width_room zero n = few_digits n
width_room (suc k) n = go (ltb n 10) refl (width_room k (n / 10))
  where
    go : (b : Bool) → ltb n 10 ≡ b → n / 10 < 10 ^ width_to k (n / 10) → n < 10 ^ pick b 1 (suc (width_to k (n / 10)))
    go true e r = let l : n < 10 = ltb-true n 10 e in omega arith
    go false e r = omega (arith, pow-suc 10 (width_to k (n / 10)))

width_some : (k n : ℕ) → 1 ≤ width_to k n
unfolding width_to
width_some zero n = omega arith
width_some (suc k) n = go (ltb n 10)
  where
    go : (b : Bool) → 1 ≤ pick b 1 (suc (width_to k (n / 10)))
    go true = omega arith
    go false = omega arith

-- a component of which there are m at most
fraction_room : (c u : ℕ) → length (fraction_text (fraction_in c u)) ≤ pick (eqb c seconds) (1 + fraction_digits) 0
fraction_room c u = go (eqb c seconds)
  where
    go : (b : Bool) → length (fraction_text (pick b u 0)) ≤ pick b (1 + fraction_digits) 0
    go true = fraction_short u
    go false = omega (arith, ap length (no_fraction 0 refl))

one_short : (c n m u : ℕ) → n ≤ m → length (shown c n u) ≤ most_shown c m
one_short c n m u h =
    let l : n < 10 ^ width_to longest m = omega (arith, width_room longest m) in
    omega (arith, shown_short (width_to longest m) c n u (width_some longest m) l, fraction_room c u)

-- sums that are no more than others
pub record NoMore (a g : Sums) : Type 0 where
  pub months : a.months ≤ g.months
  pub seconds : a.seconds ≤ g.seconds

share_le : (x y w : ℕ) → 1 ≤ w → x ≤ y → x / w ≤ y / w
share_le x y w p h = (le-div_iff_mul-le p).1 (omega (arith, div-mul-le_self x w))

module _ (a g : Sums) (h : NoMore a g) where
  shares : (months : Bool) (w : ℕ) → 1 ≤ w → one_sum months a / w ≤ one_sum months g / w
  shares true w p = share_le a.months g.months w p h.months
  shares false w p = share_le a.seconds g.seconds w p h.seconds

  rests : (months : Bool) (w : ℕ) → 1 ≤ w → NoMore (remainder_of months w a) (most_rest months w g)
  rests true w p = record { months = omega (arith, mod-lt a.months p); seconds = h.seconds }
  rests false w p = record { months = h.months; seconds = omega (arith, mod-lt a.seconds p) }

-- a list of components
all_short : (time : Bool) (cs : List ℕ) (a g : Sums) (u : ℕ) → NoMore a g → length (shown_all time cs a u) ≤ most_all time cs g
unfolding shown_all most_all
all_short time [] a g u h = omega arith
all_short time (c ∷ cs) a g u h =
    let p : 1 ≤ weight time c = (weight_between time c).0 in
    let x = one_short c (share_of time c a) (share_of time c g) u (shares a g h (counts_months time c) (weight time c) p) in
    let y = all_short time cs (rest_of time c a) (most_rest (counts_months time c) (weight time c) g) u (rests a g h (counts_months time c) (weight time c) p) in
    omega (arith, x, y, length-append (shown c (share_of time c a) u) (shown_all time cs (rest_of time c a) u))

left_short : (time : Bool) (cs : List ℕ) (a g : Sums) → NoMore a g → NoMore (left time cs a) (most_left time cs g)
unfolding left most_left
left_short time [] a g h = h
left_short time (c ∷ cs) a g h =
    left_short time cs (rest_of time c a) (most_rest (counts_months time c) (weight time c) g)
    (rests a g h (counts_months time c) (weight time c) (weight_between time c).0)

after_short : (after : List ℕ) (a : Sums) (ticks k : ℕ) → length (shown_all true after a ticks) ≤ k → length (after_mark after a ticks) ≤ 1 + k
after_short after a ticks k h = go (is_nothing a ticks)
  where
    go : (b : Bool) → length (pick b [] (time_mark ∷ shown_all true after a ticks)) ≤ 1 + k
    go true = omega arith
    go false = omega arith

-- the body of a text with a sign, in any form
pub body_short : (f : Form) (a : Sums) (u : ℕ) → NoMore a most_sums → 1 + length (body f.before f.after a u) ≤ most_bytes f
body_short f a u h =
    let L : Sums = left false f.before a in
    let x = all_short false f.before a most_sums u h in
    let y = all_short true f.after L (most_left false f.before most_sums) u (left_short false f.before a most_sums h) in
    omega (arith, x, after_short f.after L u (most_all true f.after (most_left false f.before most_sums)) y, body_length f.before f.after a u)

-- the whole text
module _ (f : Form) (a : Amount) where
  pub text_zero : is_nothing a.sums a.ticks ≡ true → duration_text f a ≡ f.nothing
  unfolding duration_text
  text_zero e = λ i. pick (e i) f.nothing (spelt a.negative (body f.before f.after a.sums a.ticks))

  pub text_some : is_nothing a.sums a.ticks ≡ false → duration_text f a ≡ spelt a.negative (body f.before f.after a.sums a.ticks)
  unfolding duration_text
  text_some e = λ i. pick (e i) f.nothing (spelt a.negative (body f.before f.after a.sums a.ticks))

spelt_short : (b : Bool) (w : List ℕ) → length (spelt b w) ≤ 1 + length w
spelt_short true w = omega arith
spelt_short false w = omega arith

-- the length of a text
text_length : (f : Form) (a : Amount) → length f.nothing ≤ longest → 1 + length (body f.before f.after a.sums a.ticks) ≤ longest → length (duration_text f a) ≤ longest
text_length f a h l = go (is_nothing a.sums a.ticks) refl
  where
    go : (b : Bool) → is_nothing a.sums a.ticks ≡ b → length (duration_text f a) ≤ longest
    go true q = rw (text_zero f a q) h
    go false q = rw (text_some f a q) (omega (arith, spelt_short a.negative (body f.before f.after a.sums a.ticks)))

-- an amount within the bounds is no more than the most
sums_within : (a : Amount) → Good a → NoMore a.sums most_sums
sums_within a g = record { months = months_within a g; seconds = omega (arith, seconds_within a g) }

-- so in a form that passes every text has room
pub value_short : (v : Value) (f : Form) → ok_value v ≡ true → Sane f → 1 + length (body f.before f.after (amount_of v).sums (amount_of v).ticks) ≤ longest
value_short v f ok s =
    omega (arith, body_short f (amount_of v).sums (amount_of v).ticks (sums_within (amount_of v) (value_good v ok)), s.room)

pub duration_length : (v : Value) → ok_value v ≡ true → length (duration_text_of v) ≤ longest
duration_length v ok =
    let s : Sane (duration_form (kind_of v)) = sane_row (kind_of v) in
    text_length (duration_form (kind_of v)) (amount_of v) s.zero_room (value_short v (duration_form (kind_of v)) ok s)
