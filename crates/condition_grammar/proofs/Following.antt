-- One byte decides what follows a part: by the first byte from an offset on that is no space, at most one kind of operator stands there.
use mathlib.Core.Path.{◌≡◌, refl, ap, ◌∙◌}
use mathlib.Core.Bool.{false}
use mathlib.Core.List.{List, ◌∷◌}
use Prim.Native.Nat.{ℕ}
use Prim.Native.Char.{Char, code}
use Prim.Native.String.{String}
use lib.Dec.{eqb}
use lib.ListN.{length, get_or, get_or-eq_default}
use native.Mathlib.Nat.{le_refl}
use borrow.Author.Tests.{eqb-true}
use Rattle.std.specs.Prelude.{Option, Some, None, Ok}
use Rattle.basis.specs.Choice.{pick}
use Rattle.basis.specs.Letters.{bytes}
use Rattle.value.specs.declared.Kind.{Kind}
use Rattle.condition_words.specs.Words.{skipped}
use Rattle.condition_symbols.specs.Symbols as the
use Rattle.condition_symbols.specs.declared.Op.{Op}
use Rattle.condition_symbols.specs.declared.Joint.{Joint}
use Rattle.condition_symbols.specs.declared.Held.TheVariants as H
use Rattle.condition_grammar.specs.Trees.{Tree}
use Rattle.condition_grammar.specs.Productions.{Spaces, OneByte, Word, plus, minus, eq, ne, lt, le, gt, ge, name_of, Phrase, Condition, Clause, Test, Sum, Term, Factor, Argument, Derives, one_clause, or_clause, one_test, and_test, lone_sum, two_sums, one_term, signed_term, one_factor, times_whole, enclosed, of_named_kind, a_text, a_field, a_cast}
use Rattle.condition_grammar.proofs.Ends.{picked}
use Rattle.condition_grammar.proofs.Stretches.{spaces_end, first_of}
use Rattle.condition_grammar.proofs.Standing.{Operator, or, and, comparison, sign, joint, name_first}
use Rattle.condition_grammar.proofs.Found.{operator_stands}

-- the first byte of `*`; of `+` and `-`; of `eq ne lt le gt ge`; of `and`; of `or`; any other
unfoldable pub rank_of : ℕ → ℕ
rank_of b =
    pick (eqb b (code "*")) 1 (pick (eqb b (code "+")) 2 (pick (eqb b (code "-")) 2
    (pick (eqb b (code "e")) 3 (pick (eqb b (code "n")) 3 (pick (eqb b (code "l")) 3 (pick (eqb b (code "g")) 3 (pick (eqb b (code "a")) 4 (pick (eqb b (code "o")) 5 6))))))))

unfoldable pub rank : List ℕ → ℕ → ℕ
rank s a = rank_of (get_or s (skipped s a) 0)

-- the rank of the operators that join the parts of a part
abbrev pub rank_in : Phrase → ℕ
rank_in Condition = 5
rank_in Clause = 4
rank_in Test = 3
rank_in Sum = 2
rank_in Term = 1
rank_in Factor = 0
rank_in (Argument k w) = 0

module _ (s : List ℕ) (a : ℕ) where
  by_byte : (p c : ℕ) → Spaces s a p → get_or s p 0 ≡ c → rank s a ≡ rank_of c
  unfolding rank
  by_byte p c g e = ap (λ j. rank_of (get_or s j 0)) (spaces_end g) ∙ ap rank_of e

  by_word : {p n : ℕ} (w : String) (c : ℕ) (cs : List ℕ) → bytes w ≡ c ∷ cs → Word s w a p n → rank s a ≡ rank_of c
  by_word {p} {n} w c cs e x = by_byte p c x.spaces (first_of s p n c cs (x.letters ∙ e))

  by_mark : {p n : ℕ} (w : Char) → OneByte s w a p n → rank s a ≡ rank_of (code w)
  by_mark {p} w x = by_byte p (code w) x.spaces x.stands

  pub operator_rank : {k : Phrase} {o : Op} {p n : ℕ} → Operator s k o a p n → rank s a ≡ rank_in k
  unfolding rank_of
  operator_rank (or w) = by_word "or" _ _ refl w
  operator_rank (and w) = by_word "and" _ _ refl w
  operator_rank (comparison (eq w)) = by_word "eq" _ _ refl w
  operator_rank (comparison (ne w)) = by_word "ne" _ _ refl w
  operator_rank (comparison (lt w)) = by_word "lt" _ _ refl w
  operator_rank (comparison (le w)) = by_word "le" _ _ refl w
  operator_rank (comparison (gt w)) = by_word "gt" _ _ refl w
  operator_rank (comparison (ge w)) = by_word "ge" _ _ refl w
  operator_rank (sign (plus m)) = by_mark "+" m
  operator_rank (sign (minus m)) = by_mark "-" m

  pub operator_none : (k : Phrase) → (rank s a ≡ rank_in k → ⊥) → joint k s a ≡ None
  operator_none k n = by (joint k s a) refl
    where
      by : (x : Option Joint) → joint k s a ≡ x → joint k s a ≡ None
      by None e = e
      by (Some j) e = absurd (n (operator_rank (operator_stands s a k e)))

  pub star_rank : {p n : ℕ} → OneByte s "*" a p n → rank s a ≡ 1
  unfolding rank_of
  star_rank m = by_mark "*" m

  pub times_none : (rank s a ≡ 1 → ⊥) → the.multiplier_at s a ≡ Ok None
  unfolding the.multiplier_at rank_of rank
  times_none n = picked (λ x. x ≡ Ok None) (eqb (get_or s (skipped s a) 0) (code "*")) _ _ (λ e. absurd (n (ap rank_of (eqb-true (get_or s (skipped s a) 0) (code "*") e)))) (λ e. refl)

  pub closing_rank : {p n : ℕ} → OneByte s ")" a p n → rank s a ≡ 6
  unfolding rank_of
  closing_rank m = by_mark ")" m

  pub rest_rank : Spaces s a (length s) → rank s a ≡ 6
  unfolding rank_of
  rest_rank r = by_byte (length s) 0 r (get_or-eq_default s 0 (le_refl (length s)))

  -- where a factor begins, no quote and no `$` stands
  pub record Begins : Type 0 where
    pub spaces : Spaces s a (skipped s a)
    pub held : the.held_at s a ≡ Some H.Sum

  begins_at : (p c : ℕ) → Spaces s a p → get_or s p 0 ≡ c → eqb c (code "\"") ≡ false → eqb c (code "$") ≡ false → Begins
  unfolding the.held_at
  begins_at p c g e f h = record { spaces = rw (spaces_end g) g; held = rw (spaces_end g, e, f, h) }

  opening_begins : {p n : ℕ} → OneByte s "(" a p n → Begins
  opening_begins {p} m = begins_at p (code "(") m.spaces m.stands refl refl

  name_begins : {p n : ℕ} (k : Kind) → Word s (name_of k) a p n → Begins
  name_begins {p} {n} k w = begins_at p 120 w.spaces (name_first s k p n w.letters) refl refl

-- a part other than an argument begins with a factor
abbrev BeginsIn : List ℕ → Phrase → ℕ → Type 0
BeginsIn s Condition a = Begins s a
BeginsIn s Clause a = Begins s a
BeginsIn s Test a = Begins s a
BeginsIn s Sum a = Begins s a
BeginsIn s Term a = Begins s a
BeginsIn s Factor a = Begins s a
BeginsIn s (Argument k w) a = Unit {0}

pub begins : {s : List ℕ} {k : Phrase} {t : Tree} {a n : ℕ} → Derives s k t a n → BeginsIn s k a
begins (one_clause x) = begins x
begins (or_clause g x e y) = begins x
begins (one_test x) = begins x
begins (and_test g x e y) = begins x
begins (lone_sum x) = begins x
begins (two_sums g x e y) = begins x
begins (one_term x) = begins x
begins (signed_term g x e y) = begins x
begins (one_factor x) = begins x
begins (times_whole x e y) = begins x
begins (enclosed e x f) = opening_begins _ _ e
begins (of_named_kind {k = k} w e x f) = name_begins _ _ k w
begins (a_text x) = tt
begins (a_field x) = tt
begins (a_cast x) = tt
