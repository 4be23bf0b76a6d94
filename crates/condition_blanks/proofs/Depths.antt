-- Blanks are neither quotes nor parentheses, so wherever they are put in, the parentheses are as deep as before.
use mathlib.Core.Path.{◌≡◌, refl, sym, ap, ◌∙◌}
use mathlib.Core.Bool.{Bool, true, false, not}
use mathlib.Core.List.{List, [], ◌∷◌, ◌++◌, append_assoc}
use Prim.Native.Nat.{ℕ, ◌+◌, ◌-◌, ◌≤◌}
use native.Mathlib.Omega.{arith}
use lib.Dec.{eqb}
use lib.ListN.{take, drop, take-append-drop}
use lib.Seq.{drop-drop}
use borrow.Author.Tests.{not-true}
use Rattle.basis.specs.Choice.{pick, both, every, all_pass}
use Rattle.basis.proofs.Tests.{both_left, both_right, among_all}
use Rattle.text_blanks.specs.Blanks.{blanks, is_blank, only_blanks}
use Rattle.condition_words.specs.Words.{between, quote}
use Rattle.condition_depth.specs.Depth.{opening, closing, deep, deep_from}
use Rattle.condition_blanks.specs.Literals.{BlanksNotDeeper}

-- neither a quote nor a parenthesis
pub record Plain (b : ℕ) : Type 0 where
  pub no_quote : eqb b quote ≡ false
  pub no_opening : eqb b opening ≡ false
  pub no_closing : eqb b closing ≡ false

unfoldable plain : ℕ → Bool
plain b = every (not (eqb b quote) ∷ not (eqb b opening) ∷ not (eqb b closing) ∷ [])

plain_is : (b : ℕ) → plain b ≡ true → Plain b
unfolding plain every
plain_is b e =
    let f = both_right (not (eqb b quote)) _ e in
    record {
      no_quote = not-true _ (both_left (not (eqb b quote)) _ e);
      no_opening = not-true _ (both_left (not (eqb b opening)) _ f);
      no_closing = not-true _ (both_left (not (eqb b closing)) _ (both_right (not (eqb b opening)) _ f));
    }

-- every blank is plain
blanks_plain : all_pass plain blanks ≡ true
unfolding plain every both
blanks_plain = refl

pub blank_plain : (b : ℕ) → is_blank b ≡ true → Plain b
unfolding is_blank
blank_plain b e = plain_is b (among_all plain blanks b blanks_plain e)

either : {A : Type 0} (b : Bool) (x : A) → pick b x x ≡ x
either true x = refl
either false x = refl

blanks_passed : (p y : List ℕ) (o c : ℕ) (q : Bool) → only_blanks p ≡ true → deep_from o c q (p ++ y) ≡ deep_from o c q y
unfolding deep_from only_blanks
blanks_passed [] y o c q e = refl
blanks_passed (b ∷ p) y o c q e =
    let x = blank_plain b (both_left (is_blank b) (only_blanks p) e) in
    rw (x.no_quote, x.no_opening, x.no_closing) (either q (deep_from o c q (p ++ y)) ∙ blanks_passed p y o c q (both_right (is_blank b) (only_blanks p) e))

-- put in after any bytes
put_in : (x p y : List ℕ) (o c : ℕ) (q : Bool) → only_blanks p ≡ true → deep_from o c q (x ++ (p ++ y)) ≡ deep_from o c q (x ++ y)
unfolding deep_from
put_in [] p y o c q e = blanks_passed p y o c q e
put_in (b ∷ x) p y o c q e = rw (put_in x p y o c (not q) e, put_in x p y o c q e, put_in x p y (o + 1) c q e, put_in x p y o (c + 1) q e)

-- a text is what stands before two offsets, between them and after them
whole : (s : List ℕ) (from to : ℕ) → from ≤ to → take from s ++ (between s from to ++ drop to s) ≡ s
whole s from to h =
    let e : from + (to - from) ≡ to = omega arith in
    ap (λ (x : List ℕ). take from s ++ (between s from to ++ x)) (ap (λ (i : ℕ). drop i s) (sym e) ∙ sym (drop-drop (to - from) from s))
    ∙ ap (λ (x : List ℕ). take from s ++ x) (take-append-drop (to - from) (drop from s)) ∙ take-append-drop from s

pub blanks_not_deeper : BlanksNotDeeper
unfolding deep
blanks_not_deeper s from to p q h e f =
    put_in (take from s) p (between s from to ++ (q ++ drop to s)) 0 0 false e
    ∙ ap (deep_from 0 0 false) (sym (append_assoc (take from s) (between s from to) (q ++ drop to s)))
    ∙ put_in (take from s ++ between s from to) q (drop to s) 0 0 false f
    ∙ ap (deep_from 0 0 false) (append_assoc (take from s) (between s from to) (drop to s) ∙ whole s from to h)
