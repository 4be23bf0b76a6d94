-- The parts of a layout, found a letter after the other.
use mathlib.Core.Path.{◌≡◌, refl, ap, sym, ◌∙◌}
use mathlib.Core.Bool.{Bool, true, false}
use mathlib.Core.List.{List, ◌∷◌}
use Prim.Native.Nat.{ℕ, suc, ◌+◌, ◌≤◌, ◌<◌}
use Prim.Native.Char.{code}
use native.Mathlib.Omega.{arith}
use native.Mathlib.Numerals.{add-one}
use lib.Dec.{eqb}
use lib.ListN.{length, get_or, drop, drop_of_length-le}
use lib.Seq.{drop-cons}
use Rattle.basis.specs.Choice.{pick}
use Rattle.value.specs.Rows.{has, parts_in}
use Rattle.value.specs.declared.OwnParts.{OwnParts}

-- the parts that were found, with the one that a letter stands for
abbrev pub with_letter : OwnParts → ℕ → OwnParts
with_letter f p =
    record {
      year = pick (eqb p (code "Y")) true f.year;
      month = pick (eqb p (code "M")) true f.month;
      day = pick (eqb p (code "D")) true f.day;
      clock = pick (eqb p (code "h")) true f.clock;
    }

-- what was found, and what is still to come
abbrev joined : OwnParts → List ℕ → OwnParts
joined f ps =
    record {
      year = pick f.year true (has ps (code "Y"));
      month = pick f.month true (has ps (code "M"));
      day = pick f.day true (has ps (code "D"));
      clock = pick f.clock true (has ps (code "h"));
    }

pub record Looking (ls : List ℕ) (f : OwnParts) (k : ℕ) : Type 0 where
  pub to : k ≤ length ls
  pub rest : joined f (drop k ls) ≡ parts_in ls

exchanged : (a b c : Bool) → pick (pick a true b) true c ≡ pick b true (pick a true c)
exchanged true true c = refl
exchanged true false c = refl
exchanged false b c = refl

one_letter : (f : OwnParts) (p : ℕ) (ps : List ℕ) → joined (with_letter f p) ps ≡ joined f (p ∷ ps)
unfolding has
one_letter f p ps =
    λ i.
    record {
      year = exchanged (eqb p (code "Y")) f.year (has ps (code "Y")) i;
      month = exchanged (eqb p (code "M")) f.month (has ps (code "M")) i;
      day = exchanged (eqb p (code "D")) f.day (has ps (code "D")) i;
      clock = exchanged (eqb p (code "h")) f.clock (has ps (code "h")) i;
    }

pub next : (ls : List ℕ) (f g : OwnParts) (k : ℕ) → Looking ls f k → k < length ls → g ≡ with_letter f (get_or ls k 0) → Looking ls g (k + 1)
next ls f g k l h e =
    rw add-one
    (record {
      to = omega arith;
      rest =
          ap (λ (x : OwnParts). joined x (drop (suc k) ls)) e
          ∙ one_letter f (get_or ls k 0) (drop (suc k) ls)
          ∙ ap (joined f) (sym (drop-cons ls k 0 h))
          ∙ l.rest;
    })

alone : (b : Bool) → pick b true false ≡ b
alone true = refl
alone false = refl

pub ended : (ls : List ℕ) (f : OwnParts) (k : ℕ) → Looking ls f k → length ls ≤ k → f ≡ parts_in ls
unfolding has
ended ls f k l h =
    (λ i. record { year = sym (alone f.year) i; month = sym (alone f.month) i; day = sym (alone f.day) i; clock = sym (alone f.clock) i })
    ∙ ap (joined f) (sym (drop_of_length-le ls h))
    ∙ l.rest
