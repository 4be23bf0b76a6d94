-- How the first part of a list is found: it ends at the first byte c, and the other parts are those of what stands after it.
use mathlib.Core.Path.{◌≡◌, refl}
use mathlib.Core.Bool.{Bool, true, false, cond}
use mathlib.Core.List.{List, [], ◌∷◌}
use Prim.Native.Nat.{ℕ, suc, ◌+◌, ◌≤◌}
use native.Mathlib.Omega.{arith}
use lib.Dec.{eqb, ltb, leb-suc-suc}
use lib.ListN.{length, take, drop, length-drop, drop_of_length-le}
use borrow.Author.Tests.{lt-ltb, ltb-false}
use Rattle.std.proofs.Common.{Option, Some, None}
use Rattle.std.specs.List.{position_or_len}
use Rattle.std.proofs.lemmas.List.Recursion.{is_position_or_len}
use Rattle.basis.specs.Choice.{pick}
use Rattle.timetable.specs.Parted.{onto, parted, bytes_before}

-- past the end there is none
pub before_end : (c : ℕ) (s : List ℕ) (i : ℕ) → length s ≤ i → bytes_before c (drop i s) ≡ 0
unfolding bytes_before
before_end c s i l = rw (drop_of_length-le s l)

pub before_within : (c : ℕ) (s : List ℕ) → bytes_before c s ≤ length s
unfolding bytes_before
before_within c [] = omega arith
before_within c (b ∷ bs) = go (eqb b c) (before_within c bs)
  where
    go : (x : Bool) → bytes_before c bs ≤ length bs → pick x 0 (suc (bytes_before c bs)) ≤ suc (length bs)
    go true h = omega arith
    go false h = omega arith

-- the first byte c, as the library looks for it
before_is : (c : ℕ) (s : List ℕ) → bytes_before c s ≡ position_or_len (λ b. eqb b c) s
unfolding bytes_before
before_is c s = is_position_or_len (bytes_before c) (λ b. eqb b c) refl (λ b bs. go b bs (eqb b c)) s
  where
    go : (b : ℕ) (bs : List ℕ) (x : Bool) → pick x 0 (suc (bytes_before c bs)) ≡ cond x 0 (1 + bytes_before c bs)
    go b bs true = refl
    go b bs false = omega arith

abbrev Looked : ℕ → List ℕ → Option ℕ → Type 0
Looked c s r = r ≡ cond (ltb (position_or_len (λ b. eqb b c) s) (length s)) (Some (position_or_len (λ b. eqb b c) s)) None

pub found_at : (c : ℕ) (s : List ℕ) (i : ℕ) → Looked c s (Some i) → i ≡ bytes_before c s
found_at c s i = go (position_or_len (λ b. eqb b c) s) (ltb (position_or_len (λ b. eqb b c) s) (length s)) (before_is c s)
  where
    go : (n : ℕ) (x : Bool) → bytes_before c s ≡ n → Some i ≡ cond x (Some n) None → i ≡ bytes_before c s
    go n true e h = cc
    go n false e h = cc

pub found_none : (c : ℕ) (s : List ℕ) → Looked c s None → bytes_before c s ≡ length s
found_none c s = go (ltb (position_or_len (λ b. eqb b c) s) (length s)) refl
  where
    go : (x : Bool) → ltb (position_or_len (λ b. eqb b c) s) (length s) ≡ x → None ≡ cond x (Some (position_or_len (λ b. eqb b c) s)) None → bytes_before c s ≡ length s
    go true e h = cc
    go false e h = omega (arith, before_is c s, before_within c s, ltb-false _ _ e)

-- an offset found from within a list lies within it
pub offset_within : (c : ℕ) (s : List ℕ) (at : ℕ) {r : ℕ} → at ≤ length s → r ≡ at + bytes_before c (drop at s) → r ≤ length s
offset_within c s at h e = omega (arith, before_within c (drop at s), length-drop at s)

-- the parts after the first, whose bytes are n
abbrev pub parts_after : ℕ → ℕ → List ℕ → List (List ℕ)
parts_after c n s = pick (ltb n (length s)) (parted c (drop (suc n) s)) []

pub first_part : (c : ℕ) (s : List ℕ) → parted c s ≡ take (bytes_before c s) s ∷ parts_after c (bytes_before c s) s
unfolding parted bytes_before onto
first_part c [] = refl
first_part c (b ∷ bs) = go (eqb b c) (first_part c bs)
  where
    go : (x : Bool) → parted c bs ≡ take (bytes_before c bs) bs ∷ parts_after c (bytes_before c bs) bs
        → pick x ([] ∷ parted c bs) (onto b (parted c bs))
        ≡ take (pick x 0 (suc (bytes_before c bs))) (b ∷ bs) ∷ parts_after c (pick x 0 (suc (bytes_before c bs))) (b ∷ bs)
    go true e = rw (lt-ltb 0 (suc (length bs)) (omega arith))
    go false e = rw (leb-suc-suc (suc (bytes_before c bs)) (length bs), e)
