-- What one byte more does to the depth of a text's parentheses.
use mathlib.Core.Path.{◌≡◌, sym, ◌∙◌}
use mathlib.Core.Bool.{Bool, true, false, not}
use mathlib.Core.List.{List}
use Prim.Native.Nat.{ℕ, ◌+◌, ◌-◌, ◌<◌, ◌≤◌}
use Prim.Native.Char.{code}
use native.Mathlib.Numerals.{add-one}
use lib.ListN.{length, get_or, drop}
use lib.Seq.{drop-cons}
use lib.Dec.{eqb, ltb}
use borrow.Author.Tests.{eq-eqb, ne_eqb}
use Rattle.basis.specs.Choice.{pick}
use Rattle.std.proofs.lemmas.List.{at_drop_more, at_drop_all}
use Rattle.condition_words.specs.Words.{quote}
use Rattle.condition_depth.specs.Depth.{deep, deep_from, max_depth, opening, closing}

-- after the last byte nothing more is deep
pub at_end : (opened closed : ℕ) (quoted : Bool) (s : List ℕ) (i : ℕ) → length s ≤ i → deep_from opened closed quoted (drop i s) ≡ false
unfolding deep_from
at_end opened closed quoted s i h = at_drop_all (deep_from opened closed quoted) s i h

-- the byte at an offset, and then the bytes after it
pub step : (opened closed : ℕ) (quoted : Bool) (s : List ℕ) (i : ℕ) → i < length s
    → deep_from opened closed quoted (drop i s)
    ≡ pick (eqb (get_or s i 0) quote) (deep_from opened closed (not quoted) (drop (i + 1) s))
    (pick quoted (deep_from opened closed quoted (drop (i + 1) s))
    (pick (eqb (get_or s i 0) opening) (pick (ltb max_depth (opened + 1 - closed)) true (deep_from (opened + 1) closed quoted (drop (i + 1) s)))
    (pick (eqb (get_or s i 0) closing) (deep_from opened (closed + 1) quoted (drop (i + 1) s)) (deep_from opened closed quoted (drop (i + 1) s)))))
unfolding deep_from
step opened closed quoted s i h = at_drop_more (deep_from opened closed quoted) s i 0 h

-- the same by what the byte is, for a text whose depth comes to what is left
module _ (s : List ℕ) (opened closed : ℕ) (quoted : Bool) (i : ℕ) (inv : deep s ≡ deep_from opened closed quoted (drop i s)) where
  module _ (h : i < length s) where
    pub at_quote : get_or s i 0 ≡ code "\"" → deep s ≡ deep_from opened closed (not quoted) (drop (i + 1) s)
    unfolding deep_from
    at_quote e = inv ∙ rw (add-one i, drop-cons s i 0 h, eq-eqb _ _ e)

    module _ (n : get_or s i 0 ≡ code "\"" → ⊥) where
      pub inside : quoted ≡ true → deep s ≡ deep_from opened closed quoted (drop (i + 1) s)
      unfolding deep_from
      inside q = inv ∙ rw (add-one i, drop-cons s i 0 h, ne_eqb _ _ n, q)

      module _ (q : quoted ≡ false) where
        pub at_opening : {t : Bool} → get_or s i 0 ≡ code "(" → t ≡ ltb max_depth (opened + 1 - closed) → t ≡ false → deep s ≡ deep_from (opened + 1) closed quoted (drop (i + 1) s)
        unfolding deep_from
        at_opening e g d = inv ∙ rw (add-one i, drop-cons s i 0 h, ne_eqb _ _ n, q, eq-eqb _ _ e, ← g, d)

        pub too_deep_lem : {t : Bool} → get_or s i 0 ≡ code "(" → t ≡ ltb max_depth (opened + 1 - closed) → t ≡ true → true ≡ deep s
        unfolding deep_from
        too_deep_lem e g d = sym (inv ∙ rw (drop-cons s i 0 h, ne_eqb _ _ n, q, eq-eqb _ _ e, ← g, d))

        module _ (m : get_or s i 0 ≡ code "(" → ⊥) where
          pub at_closing : get_or s i 0 ≡ code ")" → deep s ≡ deep_from opened (closed + 1) quoted (drop (i + 1) s)
          unfolding deep_from
          at_closing e = inv ∙ rw (add-one i, drop-cons s i 0 h, ne_eqb _ _ n, q, ne_eqb _ _ m, eq-eqb _ _ e)

          pub at_other : (get_or s i 0 ≡ code ")" → ⊥) → deep s ≡ deep_from opened closed quoted (drop (i + 1) s)
          unfolding deep_from
          at_other e = inv ∙ rw (add-one i, drop-cons s i 0 h, ne_eqb _ _ n, q, ne_eqb _ _ m, ne_eqb _ _ e)
