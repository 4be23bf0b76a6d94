-- Where a text holds what: positions are stated as what is left of the text from an offset on, so that each piece of a
-- written text is found again by its bytes (`cell`, `head`) and by what comes after it (`beyond`).
use mathlib.Core.Path.{◌≡◌, refl, ap, sym, ◌∙◌}
use mathlib.Core.Bool.{Bool, true, false}
use mathlib.Core.List.{List, [], ◌∷◌, ◌++◌}
use Prim.Native.Nat.{ℕ, zero, suc, ◌+◌, ◌≤◌, ◌<◌}
use native.Mathlib.Nat.{add-zero}
use native.Mathlib.Omega.{arith}
use lib.Dec.{ltb, leb}
use lib.ListN.{length, get_or, drop, length-drop, get_or-eq_default}
use lib.Seq.{get_or-drop, drop-drop, drop_at}
use borrow.Author.Tests.{ltb-true, ltb-false, leb-true}
use Rattle.basis.proofs.Tests.{both_left, both_right}
use Rattle.numerals.specs.Reading.{at}
use Rattle.numerals.specs.Carried.{without_zero}

-- what stands from i on
module _ (s : List ℕ) (i : ℕ) {t : List ℕ} (e : drop i s ≡ t) where
  pub cell : (k : ℕ) → at s (i + k) ≡ get_or t k 0
  cell k = sym (get_or-drop i s k 0) ∙ ap (λ (q : List ℕ). get_or q k 0) e

  pub head : at s i ≡ get_or t 0 0
  head = ap (λ (j : ℕ). get_or s j 0) (sym (add-zero i)) ∙ cell 0

pub beyond : (s : List ℕ) (i : ℕ) (a b : List ℕ) → drop i s ≡ a ++ b → drop (i + length a) s ≡ b
beyond s i a b e = sym (drop-drop (length a) i s) ∙ ap (drop (length a)) e ∙ drop_at a b (length a) refl

-- a byte that is not 0 stands within the text
pub within : (s : List ℕ) (i c : ℕ) → at s i ≡ c → 1 ≤ c → i < length s
within s i c e h = go (ltb i (length s)) refl
  where
    go : (b : Bool) → ltb i (length s) ≡ b → i < length s
    go true q = ltb-true i (length s) q
    go false q =
        let z : at s i ≡ 0 = get_or-eq_default s 0 (ltb-false i (length s) q) in
        omega arith

-- the text's end, and that it is not reached
module _ (s : List ℕ) (i : ℕ) (h : i ≤ length s) where
  pub none_left : drop i s ≡ [] → length s ≡ i
  none_left e = omega (arith, length-drop i s, ap length e)

  pub some_left : (x : ℕ) (xs : List ℕ) → drop i s ≡ x ∷ xs → length s ≡ i → ⊥
  some_left x xs e l = omega (arith, length-drop i s, ap length e)

-- each of the letters stands within a text where it stands at all
pub nonzero : (cs : List ℕ) (k : ℕ) → without_zero cs ≡ true → k < length cs → 1 ≤ get_or cs k 0
unfolding without_zero
nonzero [] k e h = absurd (bad h)
  where
    bad : k < 0 → ⊥
    bad g = omega arith
nonzero (c ∷ cs) zero e h = leb-true 1 c (both_left (leb 1 c) (without_zero cs) e)
nonzero (c ∷ cs) (suc k) e h = nonzero cs k (both_right (leb 1 c) (without_zero cs) e) (less h)
  where
    less : suc k < suc (length cs) → k < length cs
    less g = omega arith
