-- Which bytes are blanks, and those at a text's two ends: how many stand at its beginning, byte by byte, and how long it is without
-- those at its end.
use mathlib.Core.Path.{◌≡◌, refl, ap, ◌∙◌}
use mathlib.Core.Bool.{Bool, true, false, cond}
use mathlib.Core.List.{List, reverse, [], ◌∷◌, ◌++◌}
use Prim.Native.Nat.{ℕ, zero, suc, ◌+◌, ◌≤◌}
use native.Mathlib.Omega.{arith}
use lib.Dec.{eqb}
use Rattle.std.specs.List.{prefix_len, suffix_len}
use Rattle.std.proofs.lemmas.List.{reverse-append, length-reverse}
use Rattle.std.proofs.lemmas.List.Folds.{prefix_len-append}
use lib.ListN.{length}
use borrow.Author.Tests.{eq-eqb, ne_eqb}
use Rattle.basis.specs.Choice.{pick, both}
use Rattle.basis.proofs.Tests.{both_left, both_right}
use Rattle.text_blanks.specs.Blanks.{is_blank, only_blanks, leading_blanks, untrailed}

-- ---- a blank: worked cases

-- the four are blanks
four_blanks : (is_blank 9 ≡ true) × (is_blank 10 ≡ true) × (is_blank 13 ≡ true) × (is_blank 32 ≡ true)
unfolding is_blank
four_blanks = (refl, refl, refl, refl)

-- and no byte beside them is, nor 0, nor two that other papers count as white space
no_others : (is_blank 8 ≡ false) × (is_blank 11 ≡ false) × (is_blank 12 ≡ false) × (is_blank 14 ≡ false) × (is_blank 31 ≡ false) × (is_blank 33 ≡ false) × (is_blank 0 ≡ false) × (is_blank 133 ≡ false) × (is_blank 160 ≡ false)
unfolding is_blank
no_others = (refl, refl, refl, refl, refl, refl, refl, refl, refl)

-- ---- at the beginning

-- as many as pass the test at the front
pub lead_counts : (s : List ℕ) → prefix_len is_blank s ≡ leading_blanks s
unfolding leading_blanks
lead_counts [] = refl
lead_counts (b ∷ s) = go (is_blank b) (lead_counts s)
  where
    go : (x : Bool) → prefix_len is_blank s ≡ leading_blanks s → cond x (1 + prefix_len is_blank s) 0 ≡ pick x (suc (leading_blanks s)) 0
    go true h = omega arith
    go false h = refl

pub lead_le : (s : List ℕ) → leading_blanks s ≤ length s
unfolding leading_blanks
lead_le [] = omega arith
lead_le (b ∷ s) = go (is_blank b) (lead_le s)
  where
    go : (x : Bool) → leading_blanks s ≤ length s → pick x (suc (leading_blanks s)) 0 ≤ suc (length s)
    go true h = omega arith
    go false h = omega arith

-- blanks before a text are that many more
pub lead_more : (p s : List ℕ) → only_blanks p ≡ true → leading_blanks (p ++ s) ≡ length p + leading_blanks s
unfolding leading_blanks only_blanks
lead_more [] s e = omega arith
lead_more (b ∷ p) s e = rw (both_left (is_blank b) (only_blanks p) e) (omega (arith, lead_more p s (both_right (is_blank b) (only_blanks p) e)))

-- ---- at the end

pub untrailed_le : (s : List ℕ) → untrailed s ≤ length s
unfolding untrailed
untrailed_le [] = omega arith
untrailed_le (b ∷ s) = go (both (is_blank b) (eqb (untrailed s) 0)) (untrailed_le s)
  where
    go : (x : Bool) → untrailed s ≤ length s → pick x 0 (suc (untrailed s)) ≤ suc (length s)
    go true h = omega arith
    go false h = omega arith

-- nothing is left of blanks alone
pub none_left : (q : List ℕ) → only_blanks q ≡ true → untrailed q ≡ 0
unfolding untrailed only_blanks both
none_left [] e = refl
none_left (b ∷ q) e = rw (both_left (is_blank b) (only_blanks q) e, none_left q (both_right (is_blank b) (only_blanks q) e))

-- blanks after a text make it no longer
pub untrailed_same : (s q : List ℕ) → only_blanks q ≡ true → untrailed (s ++ q) ≡ untrailed s
unfolding untrailed
untrailed_same [] q e = none_left q e
untrailed_same (b ∷ s) q e = rw (untrailed_same s q e)

-- another byte after it does, whatever it ends with
pub untrailed_whole : (s : List ℕ) (b : ℕ) → is_blank b ≡ false → untrailed (s ++ b ∷ []) ≡ suc (length s)
unfolding untrailed both
untrailed_whole [] b e = rw e
untrailed_whole (c ∷ s) b e = rw (untrailed_whole s b e) (go (is_blank c))
  where
    go : (x : Bool) → pick (both x (eqb (suc (length s)) 0)) 0 (suc (suc (length s))) ≡ suc (suc (length s))
    go true = rw (ne_eqb (suc (length s)) 0 (λ q. omega arith))
    go false = refl

-- one byte more in front is one more at the back, where all bytes behind it pass
rear_front : (b : ℕ) (s : List ℕ)
    → suffix_len is_blank (b ∷ s) ≡ cond (eqb (suffix_len is_blank s) (length s)) (length s + cond (is_blank b) 1 0) (suffix_len is_blank s)
rear_front b s =
    ap (prefix_len is_blank) (reverse-append (b ∷ []) s)
    ∙ prefix_len-append is_blank (reverse s) (b ∷ [])
    ∙ ap (λ (n : ℕ). cond (eqb (suffix_len is_blank s) n) (n + cond (is_blank b) 1 0) (suffix_len is_blank s)) (length-reverse s)

rear_step : (x : Bool) (u k n : ℕ) → u + k ≡ n → pick (both x (eqb u 0)) 0 (suc u) + cond (eqb k n) (n + cond x 1 0) k ≡ suc n
unfolding both
rear_step true zero k n h = rw (eq-eqb k n (omega arith)) (omega arith)
rear_step false zero k n h = rw (eq-eqb k n (omega arith)) (omega arith)
rear_step true (suc u) k n h = rw (ne_eqb (suc u) 0 (λ e. omega arith), ne_eqb k n (λ e. omega arith)) (omega arith)
rear_step false (suc u) k n h = rw (ne_eqb k n (λ e. omega arith)) (omega arith)

-- what is not left are the bytes that pass the test at the back
pub rear_counts : (s : List ℕ) → untrailed s + suffix_len is_blank s ≡ length s
unfolding untrailed
rear_counts [] = refl
rear_counts (b ∷ s) = rw (rear_front b s) (rear_step (is_blank b) (untrailed s) (suffix_len is_blank s) (length s) (rear_counts s))
