-- Two words are the same where the slices are equal; words of different lengths are not. What a comparison of slices says of
-- `same`, and what the bytes say that a match on a literal reads.
use mathlib.Core.Path.{◌≡◌, refl, ap, sym, ◌∙◌}
use mathlib.Core.Bool.{Bool, true, false, ◌&&◌}
use mathlib.Core.List.{List, [], ◌∷◌}
use Prim.Native.Nat.{ℕ, suc, ◌<◌, ◌≤◌}
use native.Mathlib.Omega.{arith}
use lib.ListN.{length, get_or, drop}
use lib.Seq.{drop-cons}
use lib.Dec.{eqb, ltb}
use borrow.Author.Tests.{ne_eqb, eq-eqb, ltb-true, ltb-false}
use Rattle.std.proofs.lemmas.List.{drop_all}
use Rattle.std.specs.Cmp.Lexicographic.{pointwise}
use Rattle.basis.specs.Choice.{both}
use Rattle.condition_words.specs.Words.{same}

-- words of different lengths differ
pub lengths_differ : (a b : List ℕ) → (length a ≡ length b → ⊥) → false ≡ same a b
unfolding same both
lengths_differ [] [] n = absurd (n refl)
lengths_differ [] (y ∷ ys) n = refl
lengths_differ (x ∷ xs) [] n = refl
lengths_differ (x ∷ xs) (y ∷ ys) n = by (eqb x y) (lengths_differ xs ys (λ e. n (ap suc e)))
  where
    by : (t : Bool) → false ≡ same xs ys → false ≡ both t (same xs ys)
    by true h = h
    by false h = refl

-- the test of the slices, item by item
pub by_parts : (a b : List ℕ) → pointwise eqb a b ≡ same a b
unfolding same both
by_parts [] [] = refl
by_parts [] (y ∷ ys) = refl
by_parts (x ∷ xs) [] = refl
by_parts (x ∷ xs) (y ∷ ys) = by (eqb x y) (by_parts xs ys)
  where
    by : (t : Bool) → pointwise eqb xs ys ≡ same xs ys → (t && pointwise eqb xs ys) ≡ both t (same xs ys)
    by true h = h
    by false h = refl

-- the answer of `w == s`, where s holds the word p
pub is_same : (r : Bool) (w s p : List ℕ) → r ≡ pointwise eqb w s → s ≡ p → same w p ≡ r
is_same r w s p e h = sym (by_parts w p) ∙ ap (pointwise eqb w) (sym h) ∙ sym e

-- the bytes of p stand in a from i on, and none after
abbrev pub reads : List ℕ → ℕ → List ℕ → Bool
reads a i [] = eqb (length a) i
reads a i (c ∷ p) = eqb (get_or a i 0) c && reads a (suc i) p

and_false : (t b : Bool) → b ≡ false → (t && b) ≡ false
and_false true b e = e
and_false false b e = refl

past : (a : List ℕ) (i : ℕ) (p : List ℕ) → length a < i → reads a i p ≡ false
past a i [] h = ne_eqb _ _ (λ e. omega arith)
past a i (c ∷ p) h = and_false _ _ (past a (suc i) p (omega arith))

reads_from : (a : List ℕ) (i : ℕ) (p : List ℕ) → i ≤ length a → pointwise eqb (drop i a) p ≡ reads a i p
reads_from a i [] h = go (ltb i (length a)) refl
  where
    go : (t : Bool) → ltb i (length a) ≡ t → pointwise eqb (drop i a) [] ≡ eqb (length a) i
    go true e = let k : i < length a = ltb-true _ _ e in rw (drop-cons a i 0 k) (sym (ne_eqb _ _ (λ q. omega arith)))
    go false e = let k : length a ≤ i = ltb-false _ _ e in rw (drop_all i a k) (sym (eq-eqb _ _ (omega arith)))
reads_from a i (c ∷ p) h = go (ltb i (length a)) refl (reads_from a (suc i) p)
  where
    go : (t : Bool) → ltb i (length a) ≡ t → (suc i ≤ length a → pointwise eqb (drop (suc i) a) p ≡ reads a (suc i) p)
        → pointwise eqb (drop i a) (c ∷ p) ≡ (eqb (get_or a i 0) c && reads a (suc i) p)
    go true e r = let k : i < length a = ltb-true _ _ e in rw (drop-cons a i 0 k) (ap (λ b. eqb (get_or a i 0) c && b) (r (omega arith)))
    go false e r = let k : length a ≤ i = ltb-false _ _ e in rw (drop_all i a k) (sym (and_false _ _ (past a (suc i) p (omega arith))))

-- a word is the literal where its bytes and its length are, for a match on literals
pub same_reads : (a b : List ℕ) → same a b ≡ reads a 0 b
same_reads a b = sym (by_parts a b) ∙ reads_from a 0 b (omega arith)
