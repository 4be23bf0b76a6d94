-- A stretch goes on at a byte of its class and stops at any other; it ends at or past its beginning, and within the text if it
-- begins there. So a word is as long as its stretch.
use mathlib.Core.Path.{◌≡◌, refl}
use mathlib.Core.Bool.{Bool, true, false}
use mathlib.Core.List.{List}
use Prim.Native.Nat.{ℕ, zero, suc, ◌+◌, ◌-◌, ◌<◌, ◌≤◌, min}
use native.Mathlib.Omega.{arith}
use native.Mathlib.Nat.{le_refl}
use lib.Dec.{leb}
use borrow.Author.Tests.{leb-true, leb-false}
use lib.ListN.{length, get_or, drop, length-take, length-drop}
use Rattle.basis.specs.Choice.{pick}
use Rattle.std.specs.List.{prefix_len}
use Rattle.std.proofs.lemmas.List.Sums.{prefix_len-drop_yes, prefix_len-drop_no, prefix_len-drop_all}
use Rattle.condition_words.specs.Words.{belongs, stretch_end_in, stretch_end, word_at}
use Rattle.condition_words.specs.declared.Class.{Class}
use Rattle.condition_words.specs.declared.Class.TheVariants.{Letter}

counted_in : (n : ℕ) (c : Class) (s : List ℕ) (at : ℕ) → length s - at ≡ n → at + prefix_len (belongs c) (drop at s) ≡ stretch_end_in n c s at
unfolding stretch_end_in
counted_in zero c s at h = omega (arith, prefix_len-drop_all (belongs c) s at (omega arith))
counted_in (suc n) c s at h = by (belongs c (get_or s at 0)) refl (counted_in n c s (at + 1) (omega arith))
  where
    by : (b : Bool) → belongs c (get_or s at 0) ≡ b → at + 1 + prefix_len (belongs c) (drop (at + 1) s) ≡ stretch_end_in n c s (at + 1)
        → at + prefix_len (belongs c) (drop at s) ≡ pick b (stretch_end_in n c s (at + 1)) at
    by true e k = omega (arith, prefix_len-drop_yes (belongs c) s at 0 (omega arith) e)
    by false e k = omega (arith, prefix_len-drop_no (belongs c) s at 0 (omega arith) e)

-- as many bytes as the rest of the text begins with of the class
pub counted : (c : Class) (s : List ℕ) (at : ℕ) → at + prefix_len (belongs c) (drop at s) ≡ stretch_end c s at
unfolding stretch_end
counted c s at = counted_in (length s - at) c s at refl

of_from : (n : ℕ) (c : Class) (s : List ℕ) (p : ℕ) → p ≤ stretch_end_in n c s p
unfolding stretch_end_in
of_from zero c s p = le_refl p
of_from (suc n) c s p = by (belongs c (get_or s p 0)) (of_from n c s (p + 1))
  where
    by : (b : Bool) → p + 1 ≤ stretch_end_in n c s (p + 1) → p ≤ pick b (stretch_end_in n c s (p + 1)) p
    by true h = omega arith
    by false h = le_refl p

of_within : (n : ℕ) (c : Class) (s : List ℕ) (p : ℕ) → stretch_end_in n c s p ≤ p + n
unfolding stretch_end_in
of_within zero c s p = omega arith
of_within (suc n) c s p = by (belongs c (get_or s p 0)) (of_within n c s (p + 1))
  where
    by : (b : Bool) → stretch_end_in n c s (p + 1) ≤ p + 1 + n → pick b (stretch_end_in n c s (p + 1)) p ≤ p + suc n
    by true h = omega arith
    by false h = omega arith

pub stretch_from : (c : Class) (s : List ℕ) (p : ℕ) → p ≤ stretch_end c s p
unfolding stretch_end
stretch_from c s p = of_from (length s - p) c s p

pub stretch_within : (c : Class) (s : List ℕ) (p : ℕ) → p ≤ length s → stretch_end c s p ≤ length s
unfolding stretch_end
stretch_within c s p h = omega (arith, of_within (length s - p) c s p)

-- past the end there is no stretch
pub stretch_past : (c : Class) (s : List ℕ) (p : ℕ) → length s ≤ p → stretch_end c s p ≡ p
unfolding stretch_end
stretch_past c s p h = omega (arith, of_within (length s - p) c s p, of_from (length s - p) c s p)

pub word_end : (s : List ℕ) (p : ℕ) → p + length (word_at s p) ≡ stretch_end Letter s p
word_end s p = simp (length-take, length-drop) (by (leb (length s) p) refl)
  where
    by : (b : Bool) → leb (length s) p ≡ b → p + min (stretch_end Letter s p - p) (length s - p) ≡ stretch_end Letter s p
    by true e = omega (arith, stretch_past Letter s p (leb-true _ _ e))
    by false e = let h : p < length s = leb-false _ _ e in omega (arith, stretch_from Letter s p, stretch_within Letter s p (omega arith))
