-- What reads is valid: a fraction's ticks never make a second, what a text of good shape counts is within the bounds,
-- with no sign on zero, and a form whose components count months alone, or seconds alone, gives no others.
use Rattle.std.specs.Prelude.{Result}
use mathlib.Core.Path.{◌≡◌, refl, ap, sym, ◌∙◌}
use mathlib.Core.Bool.{Bool, true, false, not}
use mathlib.Core.List.{List, [], ◌∷◌}
use Prim.Native.Nat.{ℕ, ◌+◌, ◌*◌, ◌^◌, ◌≤◌, ◌<◌}
use native.Mathlib.Omega.{arith}
use lib.Dec.{eqb, leb, ltb}
use lib.ListN.{length}
use borrow.Author.Tests.{leb-true, eqb-true, not-true}
use Rattle.basis.specs.Choice.{pick, both, all_pass}
use Rattle.basis.specs.Answer.{gives, refuses}
use Rattle.basis.proofs.Tests.{never, both_left, both_right}
use Rattle.value.specs.Bounds.{second_ticks, max_day_time, max_year_month}
use Rattle.value.specs.Refusals.{bad_text, beyond_bounds, long_fraction}
use Rattle.numerals.specs.Reading.{Number, numeral_at, at, fraction_digits, fraction_at}
use Rattle.numerals.proofs.Fractions.{fraction_lt}
use Rattle.text_durations.specs.declared.Sums.{Sums}
use Rattle.text_durations.specs.declared.Walk.{Walk}
use Rattle.text_durations.specs.declared.Shape.{Shape}
use Rattle.text_durations.specs.declared.Amount.{Amount}
use Rattle.text_forms.specs.Forms.{Form, weight, counts_months, seconds, point, time_mark, start_mark, minus_sign}
use Rattle.text_durations.specs.Walks.{is_nothing, no_sums, more_of, counting, component, component_of, components, pointed, timed, onward, walk_from, shape_from, shape, within_bounds, counted, signed_amount, read_by}
use Rattle.text_durations.specs.Carried.{count_meaning, shape_up_to}
use Rattle.text_durations.proofs.Capping.{counted_cap}
use Rattle.value.specs.declared.Refusal.{Refusal}

-- what every component keeps of the sums and of the ticks, the shape has
module _ (s : List ℕ) (Keeps : Sums → ℕ → Type 0) (test : Bool → ℕ → Bool) (begin : Keeps no_sums 0)
    (whole : (time : Bool) (c n : ℕ) (a : Sums) (u : ℕ) → test time c ≡ true → Keeps a u → Keeps (counting time c n a) u)
    (part : (time : Bool) (c n : ℕ) (a : Sums) (u i : ℕ) → test time c ≡ true → c ≡ seconds → Keeps a u → Keeps (counting time c n a) (fraction_at s i).ticks) where
  component_keeps : (time : Bool) (c : ℕ) (t : Walk) → test time c ≡ true → Keeps t.sums t.ticks → Keeps (component s time c t).sums (component s time c t).ticks
  unfolding component
  component_keeps time c t ok h = go (numeral_at s t.at)
    where
      deep : (n i : ℕ) → c ≡ seconds → Keeps (pointed s c t (counting time c n t.sums) i (fraction_at s i)).sums (pointed s c t (counting time c n t.sums) i (fraction_at s i)).ticks
      deep n i q = by (eqb (fraction_at s i).end i) (eqb (at s (fraction_at s i).end) c) refl refl
        where
          by : (x y : Bool) → eqb (fraction_at s i).end i ≡ x → eqb (at s (fraction_at s i).end) c ≡ y
              → Keeps (pointed s c t (counting time c n t.sums) i (fraction_at s i)).sums (pointed s c t (counting time c n t.sums) i (fraction_at s i)).ticks
          by true y e f = rw e h
          by false true e f = rw (e, f) (part time c n t.sums t.ticks i ok q h)
          by false false e f = rw (e, f) h

      go : (n : Number) → Keeps (component_of s time c t n).sums (component_of s time c t n).ticks
      go n = by (eqb n.count 0) (eqb (at s (t.at + n.count)) c) (both (eqb c seconds) (eqb (at s (t.at + n.count)) point)) refl refl refl
        where
          by : (x y z : Bool) → eqb n.count 0 ≡ x → eqb (at s (t.at + n.count)) c ≡ y → both (eqb c seconds) (eqb (at s (t.at + n.count)) point) ≡ z
              → Keeps (component_of s time c t n).sums (component_of s time c t n).ticks
          by true y z e f g = rw e h
          by false true z e f g = rw (e, f) (whole time c n.value t.sums t.ticks ok h)
          by false false true e f g = rw (e, f, g) (deep n.value (t.at + n.count + 1) (eqb-true c seconds (both_left (eqb c seconds) (eqb (at s (t.at + n.count)) point) g)))
          by false false false e f g = rw (e, f, g) h

  components_keep : (time : Bool) (cs : List ℕ) (t : Walk) → all_pass (test time) cs ≡ true → Keeps t.sums t.ticks → Keeps (components s time cs t).sums (components s time cs t).ticks
  unfolding components
  components_keep time [] t ok h = h
  components_keep time (c ∷ cs) t ok h =
      components_keep time cs (component s time c t) (both_right (test time c) (all_pass (test time) cs) ok)
      (component_keeps time c t (both_left (test time c) (all_pass (test time) cs) ok) h)

  module _ (before after : List ℕ) (ok_before : all_pass (test false) before ≡ true) (ok_after : all_pass (test true) after ≡ true) where
    timed_keeps : (negative : Bool) (from : ℕ) (t : Walk) → Keeps t.sums t.ticks → Keeps (timed after s negative from t).sums (timed after s negative from t).ticks
    timed_keeps negative from t h = by (both (ltb 0 (length after)) (eqb (at s t.at) time_mark)) refl
      where
        by : (b : Bool) → both (ltb 0 (length after)) (eqb (at s t.at) time_mark) ≡ b → Keeps (timed after s negative from t).sums (timed after s negative from t).ticks
        by true e = rw e (components_keep true after (onward t) ok_after h)
        by false e = rw e h

    from_keeps : (negative : Bool) (i : ℕ) → Keeps (shape_from before after s negative i).sums (shape_from before after s negative i).ticks
    unfolding shape_from
    from_keeps negative i = by (eqb (at s i) start_mark) refl
      where
        by : (b : Bool) → eqb (at s i) start_mark ≡ b → Keeps (shape_from before after s negative i).sums (shape_from before after s negative i).ticks
        by true e = rw e (timed_keeps negative (i + 1) (components s false before (walk_from (i + 1))) (components_keep false before (walk_from (i + 1)) ok_before begin))
        by false e = rw e begin

    shape_keeps : Keeps (shape before after s).sums (shape before after s).ticks
    unfolding shape
    shape_keeps = by (eqb (at s 0) minus_sign) refl
      where
        by : (b : Bool) → eqb (at s 0) minus_sign ≡ b → Keeps (shape before after s).sums (shape before after s).ticks
        by true e = rw e (from_keeps true 1)
        by false e = rw e (from_keeps false 0)

-- a part of a second is none
any_passes : (cs : List ℕ) → all_pass (λ (c : ℕ). true) cs ≡ true
unfolding both
any_passes [] = refl
any_passes (c ∷ cs) = any_passes cs

pub shape_ticks : (s before after : List ℕ) → (shape before after s).ticks < 10 ^ fraction_digits
shape_ticks s before after =
    shape_keeps s (λ (a : Sums) (u : ℕ). u < 10 ^ fraction_digits) (λ (time : Bool) (c : ℕ). true) (omega arith) (λ time c n a u ok h. h) (λ time c n a u i ok e h. fraction_lt s i) before after
    (any_passes before) (any_passes after)

-- a component that counts months leaves the seconds, and is not the one with a fraction; one that does not leaves the
-- months
seconds_stay : (months : Bool) (k : ℕ) (a : Sums) → months ≡ true → (more_of months k a).seconds ≡ a.seconds
seconds_stay months k a e = λ i. pick (e i) a.seconds (a.seconds + k)

months_stay : (months : Bool) (k : ℕ) (a : Sums) → months ≡ false → (more_of months k a).months ≡ a.months
months_stay months k a e = λ i. pick (e i) (a.months + k) a.months

no_month : (time : Bool) (c : ℕ) → counts_months time c ≡ true → c ≡ seconds → ⊥
no_month time c e q = by time (sym (ap (counts_months time) q) ∙ e)
  where
    by : (b : Bool) → counts_months b seconds ≡ true → ⊥
    by true f = never f
    by false f = never f

-- no month and no second of the other kind
pub only_seconds : (s before after : List ℕ) → all_pass (λ (c : ℕ). not (counts_months false c)) before ≡ true → all_pass (λ (c : ℕ). not (counts_months true c)) after ≡ true
    → (shape before after s).sums.months ≡ 0
only_seconds s before after b a =
    shape_keeps s (λ (a : Sums) (u : ℕ). a.months ≡ 0) (λ (time : Bool) (c : ℕ). not (counts_months time c)) refl
    (λ time c n a u ok h. months_stay (counts_months time c) (n * weight time c) a (not-true (counts_months time c) ok) ∙ h)
    (λ time c n a u i ok e h. months_stay (counts_months time c) (n * weight time c) a (not-true (counts_months time c) ok) ∙ h)
    before after b a

pub only_months : (s before after : List ℕ) → all_pass (λ (c : ℕ). counts_months false c) before ≡ true → all_pass (λ (c : ℕ). counts_months true c) after ≡ true
    → ((shape before after s).sums.seconds ≡ 0) × ((shape before after s).ticks ≡ 0)
only_months s before after b a =
    shape_keeps s (λ (a : Sums) (u : ℕ). (a.seconds ≡ 0) × (u ≡ 0)) counts_months (refl, refl)
    (λ time c n a u ok h. (seconds_stay (counts_months time c) (n * weight time c) a ok ∙ h.0, h.1))
    (λ time c n a u i ok e h. absurd (no_month time c ok e))
    before after b a

-- an amount within the bounds, with no sign on zero
pub record Good (a : Amount) : Type 0 where
  pub within : within_bounds a.sums a.ticks ≡ true
  pub sign : is_nothing a.sums a.ticks ≡ true → a.negative ≡ false
  pub part : a.ticks < 10 ^ fraction_digits

pub months_within : (a : Amount) → Good a → a.sums.months ≤ max_year_month
months_within a g = leb-true a.sums.months max_year_month (both_left _ _ g.within)

pub seconds_within : (a : Amount) → Good a → a.sums.seconds * second_ticks + a.ticks ≤ max_day_time
seconds_within a g = leb-true (a.sums.seconds * second_ticks + a.ticks) max_day_time (both_right (leb a.sums.months max_year_month) _ g.within)

signed_good : (negative : Bool) (a : Sums) (u : ℕ) → within_bounds a u ≡ true → u < 10 ^ fraction_digits → Good (signed_amount negative a u)
signed_good negative a u h k = record { within = h; sign = λ e i. pick (e i) false negative; part = k }

-- what a shape counts, it has
pub record Counts (t : Shape) (a : Amount) : Type 0 where
  pub good : Good a
  pub sums : t.sums ≡ a.sums
  pub ticks : t.ticks ≡ a.ticks

counted_good : (t : Shape) (a : Amount) → t.ticks < 10 ^ fraction_digits → counted t ≡ gives a → Counts t a
unfolding counted
counted_good t a k e = go t.good t.long (within_bounds t.sums t.ticks) refl e
  where
    not_given : {A : Type 0} {m : ℕ} {x : Amount} → refuses m ≡ gives x → A
    not_given q = let z : ◌≡◌ {A = ℕ} 0 1 = cc in absurd (no z)
      where
        no : ◌≡◌ {A = ℕ} 0 1 → ⊥
        no z = omega arith

    go : (g l b : Bool) → within_bounds t.sums t.ticks ≡ b
        → pick g (pick l (refuses long_fraction) (pick b (gives (signed_amount t.negative t.sums t.ticks)) (refuses beyond_bounds))) (refuses bad_text) ≡ gives a
        → Counts t a
    go true true b x y = not_given y
    go true false true x y =
        let z : signed_amount t.negative t.sums t.ticks ≡ a = cc in
        rw (← z) (record { good = signed_good t.negative t.sums t.ticks x k; sums = refl; ticks = refl })
    go true false false x y = not_given y
    go false l b x y = not_given y

-- Document 01, "Values and their bounds": what reads is within the bounds of its kind
pub reads_good : (f : Form) (s : List ℕ) (a : Amount) → read_by f s ≡ gives a → Counts (shape f.before f.after s) a
unfolding read_by
reads_good f s a e = counted_good (shape f.before f.after s) a (shape_ticks s f.before f.after) e

-- what the code counts, with caps beyond the bounds, is what the form gives
pub of_form : (f : Form) (s : List ℕ) {t : Shape} {r x : (Result Amount Refusal)} → t ≡ shape_up_to (shape f.before f.after s) → count_meaning r ≡ counted t → r ≡ x → count_meaning x ≡ read_by f s
unfolding read_by
of_form f s et er ex = ap count_meaning (sym ex) ∙ er ∙ ap counted et ∙ counted_cap (shape f.before f.after s)
