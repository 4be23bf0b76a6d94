-- Going through the letters of a form, and the shape of a whole text.
use mathlib.Core.Path.{◌≡◌, refl, ap, sym, ◌∙◌}
use mathlib.Core.Bool.{Bool, true, false}
use mathlib.Core.List.{List, [], ◌∷◌}
use Prim.Native.Nat.{ℕ, suc, ◌+◌, ◌≤◌, ◌<◌}
use native.Mathlib.Omega.{arith}
use lib.Dec.{eqb, ltb}
use lib.ListN.{length, get_or, drop, drop_of_length-le}
use lib.Seq.{drop-cons}
use borrow.Author.Tests.{eq-eqb, ne_eqb, lt-ltb, le-ltb, leb-true}
use Rattle.basis.specs.Choice.{both}
use Rattle.basis.proofs.Tests.{both_left, both_right}
use Rattle.numerals.specs.Reading.{at}
use Rattle.numerals.specs.Carried.{without_zero}
use Rattle.numerals.proofs.Positions.{nonzero, within}
use Rattle.text_durations.specs.declared.Walk.{Walk}
use Rattle.text_durations.specs.declared.Shape.{Shape}
use Rattle.text_forms.specs.Forms.{time_mark, start_mark, minus_sign}
use Rattle.text_durations.specs.Walks.{no_sums, component, components, timed, ended, onward, walk_from, shape_from, shape}
use Rattle.text_durations.specs.Carried.{Small, up_to, shape_up_to}
use Rattle.text_durations.proofs.Capping.{kept_sums, kept_whole, up_to_small, components_cap, timed_cap}
use Rattle.text_durations.proofs.Ways.{component_le}

pub record Going (s : List ℕ) (time : Bool) (letters : List ℕ) (t₀ t : Walk) (k : ℕ) : Type 0 where
  pub to : k ≤ length letters
  pub within : t.at ≤ length s
  pub small : Small t.sums
  pub rest : up_to (components s time (drop k letters) t) ≡ up_to (components s time letters t₀)

pub start : (s : List ℕ) (time : Bool) (letters : List ℕ) (t : Walk) → t.at ≤ length s → Small t.sums → Going s time letters t t 0
start s time letters t a b = record { to = omega arith; within = a; small = b; rest = refl }

pub step : (s : List ℕ) (time : Bool) (letters : List ℕ) (t₀ t : Walk) (k : ℕ) → without_zero letters ≡ true → Going s time letters t₀ t k → k < length letters
    → {r : Walk} → r ≡ up_to (component s time (get_or letters k 0) t) → Going s time letters t₀ r (k + 1)
unfolding components
step s time letters t₀ t k m g h {r} e =
    let c : ℕ = get_or letters k 0 in
    let cs : List ℕ = drop (suc k) letters in
    let next : k + 1 ≡ suc k = omega arith in
    let x : components s time (drop k letters) t ≡ components s time cs (component s time c t) = rw (drop-cons letters k 0 h, components) in
    record {
      to = omega arith;
      within = omega (arith, ap (λ (q : Walk). q.at) e, component_le s time c t g.within (nonzero letters k m h));
      small = up_to_small (component s time c t) e;
      rest =
          ap (λ (j : ℕ). up_to (components s time (drop j letters) r)) next
          ∙ ap (λ (q : Walk). up_to (components s time cs q)) e
          ∙ components_cap s time cs (component s time c t)
          ∙ sym (ap up_to x)
          ∙ g.rest;
    }

pub finish : (s : List ℕ) (time : Bool) (letters : List ℕ) (t₀ t : Walk) (k : ℕ) → Going s time letters t₀ t k → length letters ≤ k
    → t ≡ up_to (components s time letters t₀)
unfolding components
finish s time letters t₀ t k g h =
    kept_whole t g.small ∙ sym (ap (λ (q : List ℕ). up_to (components s time q t)) (drop_of_length-le letters h)) ∙ g.rest

-- no walk leaves the text
pub components_le : (s : List ℕ) (time : Bool) (cs : List ℕ) (t : Walk) → without_zero cs ≡ true → t.at ≤ length s → (components s time cs t).at ≤ length s
unfolding components without_zero
components_le s time [] t m h = h
components_le s time (c ∷ cs) t m h =
    components_le s time cs (component s time c t) (both_right _ _ m) (component_le s time c t h (leb-true _ _ (both_left _ _ m)))

-- T, or the end
module _ (s after : List ℕ) (negative : Bool) (from : ℕ) (t : Walk) where
  pub the_time : (length after ≡ 0 → ⊥) → at s t.at ≡ time_mark → {x : Walk} → x ≡ up_to (components s true after (onward t)) → {r : Shape} → r ≡ ended s negative (t.at + 1) x
      → r ≡ shape_up_to (timed after s negative from t)
  unfolding both
  the_time a b ex er = er ∙ ap (ended s negative (t.at + 1)) ex ∙ rw (lt-ltb 0 (length after) (omega arith), eq-eqb (at s t.at) time_mark b)

  pub no_time_lem : Small t.sums → both (ltb 0 (length after)) (eqb (at s t.at) time_mark) ≡ false → {r : Shape} → r ≡ ended s negative from t → r ≡ shape_up_to (timed after s negative from t)
  no_time_lem h b er = er ∙ ap (ended s negative from) (kept_whole t h) ∙ rw b

pub no_mark : (s after : List ℕ) (i : ℕ) {x : ℕ} → x ≡ at s i → (x ≡ time_mark → ⊥) → both (ltb 0 (length after)) (eqb (at s i) time_mark) ≡ false
unfolding both
no_mark s after i q e = by (ltb 0 (length after))
  where
    by : (b : Bool) → both b (eqb (at s i) time_mark) ≡ false
    by true = ne_eqb (at s i) time_mark (λ z. e (q ∙ z))
    by false = refl

pub no_letters : (s after : List ℕ) (i : ℕ) → length after ≡ 0 → both (ltb 0 (length after)) (eqb (at s i) time_mark) ≡ false
unfolding both
no_letters s after i h = rw (le-ltb 0 (length after) (omega arith))

-- the walk before T starts and stays within the text
pub after_le : (s before : List ℕ) (i : ℕ) {t : Walk} → without_zero before ≡ true → at s i ≡ start_mark → t ≡ up_to (components s false before (walk_from (i + 1))) → t.at ≤ length s
after_le s before i m e et =
    let h : i + 1 ≤ length s = omega (arith, within s i start_mark e (omega arith)) in
    omega (arith, ap (λ (q : Walk). q.at) et, components_le s false before (walk_from (i + 1)) m h)

-- P, or no shape
module _ (s before after : List ℕ) (negative : Bool) (i : ℕ) where
  pub no_start : (at s i ≡ start_mark → ⊥) → record { negative = negative; sums = no_sums; ticks = 0; long = false; good = false; offset = i } ≡ shape_up_to (shape_from before after s negative i)
  unfolding shape_from
  no_start e =
      rw (ne_eqb (at s i) start_mark e)
      (λ j. record { negative = negative; sums = kept_sums no_sums (omega arith, omega arith) j; ticks = 0; long = false; good = false; offset = i })

  pub a_start : at s i ≡ start_mark → {t : Walk} → t ≡ up_to (components s false before (walk_from (i + 1))) → {r : Shape} → r ≡ shape_up_to (timed after s negative (i + 1) t)
      → r ≡ shape_up_to (shape_from before after s negative i)
  unfolding shape_from
  a_start e et er =
      er ∙ ap (λ (x : Walk). shape_up_to (timed after s negative (i + 1) x)) et ∙ timed_cap s after negative (i + 1) (components s false before (walk_from (i + 1)))
      ∙ rw (eq-eqb (at s i) start_mark e)

-- a minus, or none
module _ (s before after : List ℕ) where
  pub a_minus : at s 0 ≡ minus_sign → {r : Shape} → r ≡ shape_up_to (shape_from before after s true 1) → r ≡ shape_up_to (shape before after s)
  unfolding shape
  a_minus e er = er ∙ rw (eq-eqb (at s 0) minus_sign e)

  pub no_minus : (at s 0 ≡ minus_sign → ⊥) → {r : Shape} → r ≡ shape_up_to (shape_from before after s false 0) → r ≡ shape_up_to (shape before after s)
  unfolding shape
  no_minus e er = er ∙ rw (ne_eqb (at s 0) minus_sign e)
