-- Sums that stop at their caps: what is kept of a walk serves as well as the whole of it, component after component,
-- and at the end against the bounds.
use mathlib.Core.Path.{◌≡◌, refl, ap, sym, ◌∙◌}
use mathlib.Core.Bool.{Bool, true, false}
use mathlib.Core.List.{List, [], ◌∷◌}
use Prim.Native.Nat.{ℕ, ◌+◌, ◌*◌, ◌≤◌, ◌<◌, min}
use native.Mathlib.Nat.{mul-le-mul_left, mul-le-mul_right}
use native.Mathlib.Omega.{arith}
use lib.Dec.{eqb, leb, ltb}
use lib.ListN.{length}
use borrow.Author.Tests.{le-leb, lt-leb, leb-true, leb-false}
use Rattle.basis.specs.Choice.{pick, both}
use Rattle.basis.specs.Answer.{Answer, gives, refuses}
use Rattle.basis.proofs.Tests.{both_left, both_right}
use Rattle.value.specs.Bounds.{second_ticks, max_day_time, max_year_month}
use Rattle.value.specs.Refusals.{bad_text, beyond_bounds, long_fraction}
use Rattle.numerals.specs.Reading.{Number, numeral_at, at, fraction_at}
use Rattle.numerals.specs.declared.Fraction.{Fraction}
use Rattle.text_durations.specs.declared.Sums.{Sums}
use Rattle.text_durations.specs.declared.Walk.{Walk}
use Rattle.text_durations.specs.declared.Shape.{Shape}
use Rattle.text_durations.specs.declared.Amount.{Amount}
use Rattle.text_forms.specs.Forms.{weight, counts_months, seconds, point, time_mark}
use Rattle.text_durations.specs.Walks.{more_of, counting, component, component_of, components, pointed, timed, ended, onward, within_bounds, counted, signed_amount}
use Rattle.text_durations.specs.Carried.{months_cap, seconds_cap, capped_sums, Small, up_to, shape_up_to}

-- a number that stopped before it was multiplied is as good as the whole, against a cap that is no greater
number_again : (cap far a n w : ℕ) → cap ≤ far → 1 ≤ w → min cap (a + min far n * w) ≡ min cap (a + n * w)
number_again cap far a n w l h = go (leb n far) refl
  where
    go : (b : Bool) → leb n far ≡ b → min cap (a + min far n * w) ≡ min cap (a + n * w)
    go true e =
        let k : n ≤ far = leb-true n far e in
        let f : min far n ≡ n = omega arith in
        rw f
    go false e =
        let k : far < n = leb-false n far e in
        let f : min far n ≡ far = omega arith in
        let p : far * 1 ≤ far * w = mul-le-mul_left far h in
        let q : far * w ≤ n * w = mul-le-mul_right w (omega arith) in
        rw f (omega arith)

pub number_capped : (months : Bool) (w n : ℕ) (a : Sums) → 1 ≤ w → capped_sums (more_of months (min seconds_cap n * w) a) ≡ capped_sums (more_of months (n * w) a)
number_capped true w n a h =
    let e = number_again months_cap seconds_cap a.months n w (omega arith) h in
    λ i. record { months = e i; seconds = min seconds_cap a.seconds }
number_capped false w n a h =
    let e = number_again seconds_cap seconds_cap a.seconds n w (omega arith) h in
    λ i. record { months = min months_cap a.months; seconds = e i }

-- sums that stopped stay within their caps, and serve as well
pub capped_small : (a : Sums) → Small (capped_sums a)
capped_small a = (omega arith, omega arith)

pub kept_sums : (a : Sums) → Small a → a ≡ capped_sums a
kept_sums a h =
    let e : a.months ≡ min months_cap a.months = omega (arith, h.0) in
    let f : a.seconds ≡ min seconds_cap a.seconds = omega (arith, h.1) in
    λ i. record { months = e i; seconds = f i }

capped_twice : (a : Sums) → capped_sums (capped_sums a) ≡ capped_sums a
capped_twice a = sym (kept_sums (capped_sums a) (capped_small a))

sums_again : (months : Bool) (k : ℕ) (a : Sums) → capped_sums (more_of months k (capped_sums a)) ≡ capped_sums (more_of months k a)
sums_again true k a =
    let e : min months_cap (min months_cap a.months + k) ≡ min months_cap (a.months + k) = omega arith in
    let f : min seconds_cap (min seconds_cap a.seconds) ≡ min seconds_cap a.seconds = omega arith in
    λ i. record { months = e i; seconds = f i }
sums_again false k a =
    let e : min months_cap (min months_cap a.months) ≡ min months_cap a.months = omega arith in
    let f : min seconds_cap (min seconds_cap a.seconds + k) ≡ min seconds_cap (a.seconds + k) = omega arith in
    λ i. record { months = e i; seconds = f i }

-- the sum that a component counts, as far as its cap, with the other one
module _ (time : Bool) (c n : ℕ) (a : Sums) (small : Small a) {w x : ℕ} (ew : w ≡ weight time c) where
  pub counts_month : counts_months time c ≡ true → x ≡ min months_cap (a.months + n * w) → record { months = x; seconds = a.seconds } ≡ capped_sums (counting time c n a)
  counts_month e ex =
      let p : x ≡ min months_cap (a.months + n * weight time c) = ex ∙ ap (λ (v : ℕ). min months_cap (a.months + n * v)) ew in
      let q : a.seconds ≡ min seconds_cap a.seconds = omega (arith, small.1) in
      (λ i. record { months = p i; seconds = q i }) ∙ sym (λ i. capped_sums (more_of (e i) (n * weight time c) a))

  pub counts_second : counts_months time c ≡ false → x ≡ min seconds_cap (a.seconds + n * w) → record { months = a.months; seconds = x } ≡ capped_sums (counting time c n a)
  counts_second e ex =
      let p : x ≡ min seconds_cap (a.seconds + n * weight time c) = ex ∙ ap (λ (v : ℕ). min seconds_cap (a.seconds + n * v)) ew in
      let q : a.months ≡ min months_cap a.months = omega (arith, small.0) in
      (λ i. record { months = q i; seconds = p i }) ∙ sym (λ i. capped_sums (more_of (e i) (n * weight time c) a))

pub up_to_small : (x : Walk) {t : Walk} → t ≡ up_to x → Small t.sums
up_to_small x e = (omega (arith, ap (λ (q : Walk). q.sums.months) e), omega (arith, ap (λ (q : Walk). q.sums.seconds) e))

-- a walk whose sums are within the caps is kept whole
pub kept_whole : (t : Walk) → Small t.sums → t ≡ up_to t
kept_whole t h = λ i. record { sums = kept_sums t.sums h i; ticks = t.ticks; long = t.long; at = t.at; far = t.far }

module _ (s : List ℕ) where
  -- a component with a point
  pub pointed_cap : (c : ℕ) (t : Walk) (a : Sums) (i : ℕ) (f : Fraction) → up_to (pointed s c t a i f) ≡ pointed s c (up_to t) (capped_sums a) i f
  pointed_cap c t a i f = go (eqb f.end i) (eqb (at s f.end) c) refl refl
    where
      go : (x y : Bool) → eqb f.end i ≡ x → eqb (at s f.end) c ≡ y → up_to (pointed s c t a i f) ≡ pointed s c (up_to t) (capped_sums a) i f
      go true b e g = rw e
      go false true e g = rw (e, g)
      go false false e g = rw (e, g)

  component_cap : (time : Bool) (c : ℕ) (t : Walk) → up_to (component s time c (up_to t)) ≡ up_to (component s time c t)
  unfolding component
  component_cap time c t = by (numeral_at s t.at)
    where
      by : (n : Number) → up_to (component_of s time c (up_to t) n) ≡ up_to (component_of s time c t n)
      by n = go (eqb n.count 0) (eqb (at s (t.at + n.count)) c) (both (eqb c seconds) (eqb (at s (t.at + n.count)) point)) refl refl refl
        where
          twice : capped_sums (capped_sums t.sums) ≡ capped_sums t.sums
          twice = capped_twice t.sums

          again : capped_sums (counting time c n.value (capped_sums t.sums)) ≡ capped_sums (counting time c n.value t.sums)
          again = sums_again (counts_months time c) (n.value * weight time c) t.sums

          go : (a b d : Bool) → eqb n.count 0 ≡ a → eqb (at s (t.at + n.count)) c ≡ b → both (eqb c seconds) (eqb (at s (t.at + n.count)) point) ≡ d
              → up_to (component_of s time c (up_to t) n) ≡ up_to (component_of s time c t n)
          go true b d e f g = rw e (λ i. record { sums = twice i; ticks = t.ticks; long = t.long; at = t.at; far = t.far })
          go false true d e f g = rw (e, f) (λ i. record { sums = again i; ticks = t.ticks; long = t.long; at = t.at + n.count + 1; far = t.at + n.count + 1 })
          go false false true e f g =
              let i : ℕ = t.at + n.count + 1 in
              let x : Fraction = fraction_at s i in
              rw (e, f, g)
              (pointed_cap c (up_to t) (counting time c n.value (capped_sums t.sums)) i x
              ∙ (λ j. pointed s c (record { sums = twice j; ticks = t.ticks; long = t.long; at = t.at; far = t.far }) (again j) i x)
              ∙ sym (pointed_cap c t (counting time c n.value t.sums) i x))
          go false false false e f g = rw (e, f, g) (λ i. record { sums = twice i; ticks = t.ticks; long = t.long; at = t.at; far = t.at + n.count })

  twice : (t : Walk) → up_to (up_to t) ≡ up_to t
  twice t = λ i. record { sums = capped_twice t.sums i; ticks = t.ticks; long = t.long; at = t.at; far = t.far }

  pub components_cap : (time : Bool) (cs : List ℕ) (t : Walk) → up_to (components s time cs (up_to t)) ≡ up_to (components s time cs t)
  unfolding components
  components_cap time [] t = twice t
  components_cap time (c ∷ cs) t =
      sym (components_cap time cs (component s time c (up_to t)))
      ∙ ap (λ (x : Walk). up_to (components s time cs x)) (component_cap time c t)
      ∙ components_cap time cs (component s time c t)

  pub timed_cap : (after : List ℕ) (negative : Bool) (from : ℕ) (t : Walk) → shape_up_to (timed after s negative from (up_to t)) ≡ shape_up_to (timed after s negative from t)
  timed_cap after negative from t = go (both (ltb 0 (length after)) (eqb (at s t.at) time_mark)) refl
    where
      go : (b : Bool) → both (ltb 0 (length after)) (eqb (at s t.at) time_mark) ≡ b
          → shape_up_to (timed after s negative from (up_to t)) ≡ shape_up_to (timed after s negative from t)
      go true e = rw e (ap (ended s negative (t.at + 1)) (components_cap true after (onward t)))
      go false e = rw e (ap (ended s negative from) (twice t))

-- against the bounds: with caps beyond them, what was cut off is beyond them too
months_test : (m : ℕ) → leb (min months_cap m) max_year_month ≡ leb m max_year_month
months_test m = go (leb m max_year_month) refl
  where
    go : (b : Bool) → leb m max_year_month ≡ b → leb (min months_cap m) max_year_month ≡ leb m max_year_month
    go true e = let h : m ≤ max_year_month = leb-true m max_year_month e in le-leb (min months_cap m) max_year_month (omega arith) ∙ sym e
    go false e = let h : max_year_month < m = leb-false m max_year_month e in lt-leb (min months_cap m) max_year_month (omega arith) ∙ sym e

seconds_test : (n u : ℕ) → leb (min seconds_cap n * second_ticks + u) max_day_time ≡ leb (n * second_ticks + u) max_day_time
seconds_test n u = go (leb (n * second_ticks + u) max_day_time) refl
  where
    go : (b : Bool) → leb (n * second_ticks + u) max_day_time ≡ b → leb (min seconds_cap n * second_ticks + u) max_day_time ≡ leb (n * second_ticks + u) max_day_time
    go true e =
        let h : n * second_ticks + u ≤ max_day_time = leb-true _ _ e in
        le-leb (min seconds_cap n * second_ticks + u) max_day_time (omega arith) ∙ sym e
    go false e =
        let h : max_day_time < n * second_ticks + u = leb-false _ _ e in
        lt-leb (min seconds_cap n * second_ticks + u) max_day_time (omega arith) ∙ sym e

within_small : (a : Sums) (u : ℕ) → within_bounds a u ≡ true → Small a
within_small a u e =
    let h : a.months ≤ max_year_month = leb-true a.months max_year_month (both_left _ _ e) in
    let k : a.seconds * second_ticks + u ≤ max_day_time = leb-true (a.seconds * second_ticks + u) max_day_time (both_right (leb a.months max_year_month) _ e) in
    (omega arith, omega arith)

pub counted_cap : (t : Shape) → counted (shape_up_to t) ≡ counted t
unfolding counted
counted_cap t = (λ i. judged (both (months_test t.sums.months i) (seconds_test t.sums.seconds t.ticks i)) (capped_sums t.sums)) ∙ go (within_bounds t.sums t.ticks) refl
  where
    judged : Bool → Sums → Answer Amount
    judged b a = pick t.good (pick t.long (refuses long_fraction) (pick b (gives (signed_amount t.negative a t.ticks)) (refuses beyond_bounds))) (refuses bad_text)

    go : (b : Bool) → within_bounds t.sums t.ticks ≡ b → judged (within_bounds t.sums t.ticks) (capped_sums t.sums) ≡ judged (within_bounds t.sums t.ticks) t.sums
    go true e = sym (ap (judged (within_bounds t.sums t.ticks)) (kept_sums t.sums (within_small t.sums t.ticks e)))
    go false e = (λ i. judged (e i) (capped_sums t.sums)) ∙ sym (λ i. judged (e i) t.sums)
