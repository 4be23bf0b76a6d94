-- A text in which other bytes stand in place of those from an offset up to another: what stands before them stays where it was, and what stands
-- after them is moved by as much as the text is longer or shorter.
use mathlib.Core.Path.{◌≡◌, sym, ap, ◌∙◌}
use mathlib.Core.List.{List, ◌++◌}
use Prim.Native.Nat.{ℕ, ◌+◌, ◌-◌, ◌<◌, ◌≤◌}
use native.Mathlib.Omega.{arith}
use lib.ListN.{length, get_or, take, drop, length-append, length-drop, get_or-append}
use lib.Seq.{length-take-le, get_or-take, get_or-drop, get_or-append-add, drop_at, take-append_seam}
use Rattle.numerals.specs.Reading.{at}
use Rattle.condition_words.specs.Words.{between}

abbrev pub replaced : List ℕ → ℕ → ℕ → List ℕ → List ℕ
replaced s from to r = take from s ++ (r ++ drop to s)

module _ (s r : List ℕ) (from to : ℕ) (f : from ≤ to) (h : to ≤ length s) where
  head_length : length (take from s) ≡ from
  head_length = length-take-le from s (omega arith)

  pub replaced_length : length (replaced s from to r) + to ≡ length s + (from + length r)
  replaced_length = omega (arith, length-append (take from s) (r ++ drop to s), length-append r (drop to s), length-drop to s, head_length)

  pub byte_before : (i : ℕ) → i < from → at (replaced s from to r) i ≡ at s i
  byte_before i k = get_or-append (take from s) (r ++ drop to s) 0 i (omega (arith, head_length)) ∙ get_or-take from s i 0 k

  module _ (i : ℕ) where
    past_head : at (replaced s from to r) (from + i) ≡ at (r ++ drop to s) i
    past_head =
        ap (λ (j : ℕ). get_or (replaced s from to r) (j + i) 0) (sym head_length) ∙ get_or-append-add (take from s) (r ++ drop to s) i 0

    pub byte_in : i < length r → at (replaced s from to r) (from + i) ≡ at r i
    byte_in k = past_head ∙ get_or-append r (drop to s) 0 i k

  pub byte_after : (i j : ℕ) → to ≤ i → j + to ≡ i + (from + length r) → at (replaced s from to r) j ≡ at s i
  byte_after i j k e =
      let q : j ≡ from + (length r + (i - to)) = omega arith in
      let u : to + (i - to) ≡ i = omega arith in
      ap (λ (x : ℕ). get_or (replaced s from to r) x 0) q ∙ past_head (length r + (i - to)) ∙ get_or-append-add r (drop to s) (i - to) 0
      ∙ get_or-drop to s (i - to) 0 ∙ ap (λ (x : ℕ). get_or s x 0) u

  pub bytes_in : between (replaced s from to r) from (from + length r) ≡ r
  bytes_in =
      let e : from + length r - from ≡ length r = omega arith in
      rw (e, drop_at (take from s) (r ++ drop to s) from head_length) (take-append_seam r (drop to s))
