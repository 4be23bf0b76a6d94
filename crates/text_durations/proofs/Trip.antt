-- What is written reads as itself: the components of a list, the body of a text, and its sign.
use mathlib.Core.Path.{◌≡◌, refl, ap, sym, ◌∙◌}
use mathlib.Core.Bool.{Bool, true, false}
use mathlib.Core.List.{List, [], ◌∷◌, ◌++◌, append_assoc, append-nil}
use Prim.Native.Nat.{ℕ, ◌+◌, ◌*◌, ◌/◌, ◌%◌, ◌^◌, ◌<◌}
use native.Mathlib.Nat.{div-add-mod', zero-mod, mod-one}
use native.Mathlib.Omega.{arith}
use lib.Dec.{eqb}
use lib.ListN.{length, get_or, drop, length-append}
use borrow.Author.Tests.{ne_eqb, eqb-true}
use Rattle.basis.specs.Choice.{pick, both}
use Rattle.basis.proofs.Tests.{never}
use Rattle.value.specs.Rows.{has}
use Rattle.numerals.specs.Reading.{is_digit, fraction_digits}
use Rattle.numerals.proofs.Positions.{beyond}
use Rattle.text_durations.specs.declared.Sums.{Sums}
use Rattle.text_durations.specs.declared.Walk.{Walk}
use Rattle.text_forms.specs.Forms.{weight, counts_months, minutes, seconds}
use Rattle.text_durations.specs.Walks.{more_of, component, components}
use Rattle.text_durations.specs.Spelling.{fraction_in, shown, one_sum, remainder_of, share_of, rest_of, shown_all, left}
use Rattle.text_durations.proofs.Written.{shown_length}
use Rattle.text_durations.proofs.Back.{shown_back, quiet_other, other_all, Apart, last, more}

-- the fraction that a list of letters carries: that of seconds, where they are among them
unfoldable pub carried : List ℕ → ℕ → ℕ
carried [] u = 0
carried (c ∷ cs) u = pick (eqb c seconds) u (carried cs u)

-- sums are their months and their seconds
pub same_sums : {a b : Sums} → a.months ≡ b.months → a.seconds ≡ b.seconds → a ≡ b
same_sums e f = λ i. record { months = e i; seconds = f i }

-- x and y come to the same as v and w
pub record Same (x y v w : Sums) : Type 0 where
  pub months : x.months + y.months ≡ v.months + w.months
  pub seconds : x.seconds + y.seconds ≡ v.seconds + w.seconds

-- r is t with a counted but for what is left of it
pub record All (t r : Walk) (a rest : Sums) (u on : ℕ) : Type 0 where
  pub sums : Same r.sums rest t.sums a
  pub ticks : r.ticks ≡ u
  pub long : r.long ≡ false
  pub offset : r.at ≡ t.at + on

-- what a component takes of a sum and what it leaves are that sum
share_back : (months : Bool) (w : ℕ) (x y v a : Sums) → Same x y (more_of months (one_sum months a / w * w) v) (remainder_of months w a) → Same x y v a
share_back true w x y v a h = record { months = omega (arith, h.months, div-add-mod' a.months w); seconds = h.seconds }
share_back false w x y v a h = record { months = h.months; seconds = omega (arith, h.seconds, div-add-mod' a.seconds w) }

-- what was counted first, with what was counted after it
so_counted : {x y v w : Sums} (a : Sums) → v ≡ w → Same x y v a → Same x y w a
so_counted {x} {y} {v} {w} a e h =
    record {
      months = h.months ∙ ap (λ (q : Sums). q.months + a.months) e;
      seconds = h.seconds ∙ ap (λ (q : Sums). q.seconds + a.seconds) e;
    }

counted_so : {v w : Sums} (a : Sums) → v ≡ w → Same v a w a
counted_so a e = so_counted a e (record { months = refl; seconds = refl })

-- where it takes nothing, it leaves all
none_taken : (months : Bool) (w : ℕ) (a : Sums) → one_sum months a / w ≡ 0 → remainder_of months w a ≡ a
none_taken true w a e = λ i. record { months = rest i; seconds = a.seconds }
  where
    rest : a.months % w ≡ a.months
    rest =
        let d : a.months / w * w + a.months % w ≡ a.months = div-add-mod' a.months w in
        let g : 0 * w + a.months % w ≡ a.months = rw e at d in
        omega arith
none_taken false w a e = λ i. record { months = a.months; seconds = rest i }
  where
    rest : a.seconds % w ≡ a.seconds
    rest =
        let d : a.seconds / w * w + a.seconds % w ≡ a.seconds = div-add-mod' a.seconds w in
        let g : 0 * w + a.seconds % w ≡ a.seconds = rw e at d in
        omega arith

no_letters : (u : ℕ) → carried [] u ≡ 0
unfolding carried
no_letters u = refl

one_letter : (c u : ℕ) → fraction_in c u ≡ carried (c ∷ []) u
unfolding carried
one_letter c u = refl

no_fraction_in : (c u : ℕ) (cs : List ℕ) → (c ≡ seconds → ⊥) → (fraction_in c u ≡ 0) × (carried (c ∷ cs) u ≡ carried cs u)
unfolding carried
no_fraction_in c u cs e = (rw (ne_eqb c seconds e), rw (ne_eqb c seconds e))

pub all_back : (s : List ℕ) (time : Bool) (cs : List ℕ) (t : Walk) (a : Sums) (u : ℕ) (rest : List ℕ) → Apart cs → t.ticks ≡ 0 → t.long ≡ false → u < 10 ^ fraction_digits
    → is_digit (get_or rest 0 0) ≡ false → drop t.at s ≡ shown_all time cs a u ++ rest → All t (components s time cs t) a (left time cs a) (carried cs u) (length (shown_all time cs a u))
unfolding components shown_all left
all_back s time [] t a u rest p z l h q e =
    record { sums = record { months = refl; seconds = refl }; ticks = z ∙ sym (no_letters u); long = l; offset = omega arith }
all_back s time (c ∷ []) t a u rest (last d) z l h q e =
    let x : List ℕ = shown c (share_of time c a) u in
    let f : drop t.at s ≡ x ++ rest = e ∙ ap (λ (v : List ℕ). v ++ rest) (append-nil x) in
    let b = shown_back s time c t z l (share_of time c a) u rest h d (quiet_other c rest q) f in
    record {
      sums = share_back (counts_months time c) (weight time c) (component s time c t).sums (rest_of time c a) t.sums a (counted_so (rest_of time c a) b.sums);
      ticks = b.ticks ∙ one_letter c u;
      long = b.long;
      offset = omega (arith, b.offset, length-append x []);
    }
all_back s time (c ∷ cs) t a u rest (more d ns np w p) z l h q e =
    let x : List ℕ = shown c (share_of time c a) u in
    let y : List ℕ = shown_all time cs (rest_of time c a) u in
    let f : drop t.at s ≡ x ++ (y ++ rest) = e ∙ append_assoc x y rest in
    let b = shown_back s time c t z l (share_of time c a) u (y ++ rest) h d (other_all time c cs (rest_of time c a) u rest np ns q w) f in
    let i : t.at + length x ≡ (component s time c t).at = sym b.offset in
    let g : drop (component s time c t).at s ≡ y ++ rest = ap (λ (k : ℕ). drop k s) (sym i) ∙ beyond s t.at x (y ++ rest) f in
    let k = no_fraction_in c u cs ns in
    let r = all_back s time cs (component s time c t) (rest_of time c a) u rest p (b.ticks ∙ k.0) b.long h q g in
    record {
      sums = share_back (counts_months time c) (weight time c) (components s time cs (component s time c t)).sums (left time cs (rest_of time c a)) t.sums a (so_counted (rest_of time c a) b.sums r.sums);
      ticks = r.ticks ∙ sym k.1;
      long = r.long;
      offset = omega (arith, r.offset, b.offset, length-append x y);
    }

-- where nothing is written, nothing was to be counted
pub none_shown : (time : Bool) (cs : List ℕ) (a : Sums) (u : ℕ) → length (shown_all time cs a u) ≡ 0 → (left time cs a ≡ a) × (carried cs u ≡ 0)
unfolding shown_all left carried
none_shown time [] a u e = (refl, refl)
none_shown time (c ∷ cs) a u e = go (eqb (share_of time c a + fraction_in c u) 0) refl (none_shown time cs (rest_of time c a) u (omega (arith, both_lengths)))
  where
    both_lengths : length (shown c (share_of time c a) u) + length (shown_all time cs (rest_of time c a) u) ≡ 0
    both_lengths = sym (length-append (shown c (share_of time c a) u) (shown_all time cs (rest_of time c a) u)) ∙ e

    go : (b : Bool) → eqb (share_of time c a + fraction_in c u) 0 ≡ b → (left time cs (rest_of time c a) ≡ rest_of time c a) × (carried cs u ≡ 0)
        → (left time cs (rest_of time c a) ≡ a) × (pick (eqb c seconds) u (carried cs u) ≡ 0)
    go true p r =
        let z : share_of time c a + fraction_in c u ≡ 0 = eqb-true _ _ p in
        let k : share_of time c a ≡ 0 = omega arith in
        (r.0 ∙ none_taken (counts_months time c) (weight time c) a k, by (eqb c seconds) refl (omega arith))
      where
        by : (x : Bool) → eqb c seconds ≡ x → pick x u 0 ≡ 0 → pick x u (carried cs u) ≡ 0
        by true q v = v
        by false q v = r.1
    go false p r = absurd (no (omega (arith, both_lengths, shown_length c (share_of time c a) u refl p)))
      where
        no : ◌≡◌ {A = ℕ} 0 1 → ⊥
        no q = omega arith

-- the fraction is carried where S is among the letters
pub carried_has : (cs : List ℕ) (u : ℕ) → carried cs u ≡ pick (has cs seconds) u 0
unfolding carried has
carried_has [] u = refl
carried_has (c ∷ cs) u = by (eqb c seconds) (carried_has cs u)
  where
    by : (b : Bool) → carried cs u ≡ pick (has cs seconds) u 0 → pick b u (carried cs u) ≡ pick (pick b true (has cs seconds)) u 0
    by true e = refl
    by false e = e

-- components leave no months and no seconds where there are none
no_months_rest : (months : Bool) (w : ℕ) (a : Sums) → a.months ≡ 0 → (remainder_of months w a).months ≡ 0
no_months_rest true w a e = ap (λ (n : ℕ). n % w) e ∙ zero-mod w
no_months_rest false w a e = e

no_seconds_rest : (months : Bool) (w : ℕ) (a : Sums) → a.seconds ≡ 0 → (remainder_of months w a).seconds ≡ 0
no_seconds_rest true w a e = e
no_seconds_rest false w a e = ap (λ (n : ℕ). n % w) e ∙ zero-mod w

pub left_no_months : (time : Bool) (cs : List ℕ) (a : Sums) → a.months ≡ 0 → (left time cs a).months ≡ 0
unfolding left
left_no_months time [] a e = e
left_no_months time (c ∷ cs) a e = left_no_months time cs (rest_of time c a) (no_months_rest (counts_months time c) (weight time c) a e)

pub left_no_seconds : (time : Bool) (cs : List ℕ) (a : Sums) → a.seconds ≡ 0 → (left time cs a).seconds ≡ 0
unfolding left
left_no_seconds time [] a e = e
left_no_seconds time (c ∷ cs) a e = left_no_seconds time cs (rest_of time c a) (no_seconds_rest (counts_months time c) (weight time c) a e)

-- nor where one of them counts ones
month_ones : (a : Sums) → (rest_of false minutes a).months ≡ 0
unfolding weight both
month_ones a = mod-one a.months

second_ones : (a : Sums) → (rest_of true seconds a).seconds ≡ 0
unfolding weight both
second_ones a = mod-one a.seconds

pub all_months : (cs : List ℕ) (a : Sums) → has cs minutes ≡ true → (left false cs a).months ≡ 0
unfolding left has
all_months [] a h = absurd (never h)
all_months (c ∷ cs) a h = by (eqb c minutes) refl h (λ k. all_months cs (rest_of false c a) k)
  where
    by : (b : Bool) → eqb c minutes ≡ b → pick b true (has cs minutes) ≡ true → (has cs minutes ≡ true → (left false cs (rest_of false c a)).months ≡ 0)
        → (left false cs (rest_of false c a)).months ≡ 0
    by true q k r = left_no_months false cs (rest_of false c a) (ap (λ (d : ℕ). (rest_of false d a).months) (eqb-true c minutes q) ∙ month_ones a)
    by false q k r = r k

pub all_seconds : (cs : List ℕ) (a : Sums) → has cs seconds ≡ true → (left true cs a).seconds ≡ 0
unfolding left has
all_seconds [] a h = absurd (never h)
all_seconds (c ∷ cs) a h = by (eqb c seconds) refl h (λ k. all_seconds cs (rest_of true c a) k)
  where
    by : (b : Bool) → eqb c seconds ≡ b → pick b true (has cs seconds) ≡ true → (has cs seconds ≡ true → (left true cs (rest_of true c a)).seconds ≡ 0)
        → (left true cs (rest_of true c a)).seconds ≡ 0
    by true q k r = left_no_seconds true cs (rest_of true c a) (ap (λ (d : ℕ). (rest_of true d a).seconds) (eqb-true c seconds q) ∙ second_ones a)
    by false q k r = r k
