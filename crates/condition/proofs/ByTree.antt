-- The tree that the productions derive decides what Open says of a text, and what the result at a row is.
use mathlib.Core.Path.{◌≡◌, refl, sym, ap, ◌∙◌}
use mathlib.Core.Bool.{true, false}
use mathlib.Core.List.{List}
use Prim.Native.Nat.{ℕ, ◌≤◌}
use native.Mathlib.Omega.{arith}
use lib.ListN.{length}
use borrow.Author.Tests.{le-leb}
use Rattle.basis.specs.Choice.{both}
use Rattle.basis.specs.Answer.{Reason, Answer, gives, refuses_for, refuses}
use Rattle.basis.proofs.Answers.{refuses_same}
use Rattle.value.specs.Refusals.{bad_condition}
use Rattle.value.specs.declared.Offset.{Offset}
use Rattle.timetable.specs.Rows.{Row}
use Rattle.condition_depth.specs.Depth.{deep}
use Rattle.text.specs.Reading.{read_as}
use Rattle.condition_words.specs.Words.{between}
use Rattle.condition_sorts.specs.declared.Sort.{Sort}
use Rattle.condition_sorts.specs.declared.Sort.TheVariants as S
use Rattle.condition_parts.specs.Numbers.{of_text}
use Rattle.condition_parts.proofs.Numbers.{Only, read_only}
use Rattle.condition_grammar.specs.Grammar.{Parsed, none, got}
use Rattle.condition_grammar.specs.Trees.{Tree, leaf, one, two, literal, field, parse}
use Rattle.condition_grammar.specs.Productions.{States}
use Rattle.condition_grammar.proofs.Derived.{parsed_is_stated}
use Rattle.condition_grammar.proofs.Derivations.{stated_is_parsed}
use Rattle.condition_readers.specs.Meaning.{sort_of, fits, first, first_bad, eval}
use Rattle.condition_readers.proofs.Wholes.{good_length}
use Rattle.condition.specs.Condition.{min_length, max_length, by_kinds, by_tree, check_of, as_result, of_tree, result_at}
use Rattle.condition.specs.Laws.{GrammarDecides, AcceptedByTree}
use Rattle.condition.proofs.Accepted.{accepted_length, accepted_stated}

-- the number of a refusal is another than 7
abbrev NotSeven : Answer (Unit {0}) → Type 0
NotSeven (gives x) = Unit {0}
NotSeven (refuses_for r) = r.number ≡ bad_condition → ⊥

text_not_seven : (n : ℕ) → of_text n ≡ true → n ≡ bad_condition → ⊥
text_not_seven n h e = let z : of_text bad_condition ≡ true = ap of_text (sym e) ∙ h in let y : ◌≡◌ {A = ℕ} 0 1 = cc in omega arith

fits_not_seven : {A : Type 0} (a : Answer A) → Only a → NotSeven (fits a)
unfolding fits
fits_not_seven (gives v) h = tt
fits_not_seven (refuses_for r) h = text_not_seven r.number h

first_not_seven : (a b : Answer (Unit {0})) → NotSeven a → NotSeven b → NotSeven (first a b)
unfolding first
first_not_seven (gives x) b p q = q
first_not_seven (refuses_for r) b p q = p

kinds_not_seven : (x : Sort) → NotSeven (by_kinds x)
unfolding by_kinds
kinds_not_seven S.Clash = λ e. omega arith
kinds_not_seven S.Truth = tt
kinds_not_seven (S.Of k) = λ e. omega arith

literals_not_seven : (s : List ℕ) (t : Tree) → NotSeven (first_bad s t)
unfolding first_bad
literals_not_seven s (leaf k w (literal from to)) = fits_not_seven (read_as k (between s from to)) (read_only k (between s from to))
literals_not_seven s (leaf k w (field n p)) = tt
literals_not_seven s (one o p t) = literals_not_seven s t
literals_not_seven s (two o b p l r) = first_not_seven (first_bad s l) (first_bad s r) (literals_not_seven s l) (literals_not_seven s r)

no_seven : (a : Answer (Unit {0})) → NotSeven a → a ≡ refuses bad_condition → ⊥
no_seven (gives x) n e = let z : ◌≡◌ {A = ℕ} 0 1 = cc in omega arith
no_seven (refuses_for r) n e = n (ap (λ (x : Reason). x.number) (refuses_same r _ e))

module _ (s : List ℕ) (k : length s ≤ max_length) where
  result_of : (zone : Offset) (row : Row) (t : Tree) (n : ℕ) → parse s ≡ got t n → result_at zone s row ≡ as_result (eval zone s row t)
  unfolding result_at of_tree
  result_of zone row t n e = rw (good_length s k, e)

  module _ (h : min_length ≤ length s) (d : deep s ≡ false) where
    checked_of_lem : (p : Parsed Tree) → parse s ≡ p → check_of s ≡ by_tree s p
    unfolding check_of both
    checked_of_lem p e = rw (le-leb min_length (length s) h, le-leb (length s) max_length k, d, e)

    tree_checked : (t : Tree) → States s t → check_of s ≡ first (by_kinds (sort_of t)) (first_bad s t)
    unfolding by_tree
    tree_checked t x = checked_of_lem (got t x.end) (stated_is_parsed s t x d)

    seven_by : (p : Parsed Tree) → parse s ≡ p → ((t : Tree) → States s t → ⊥) → check_of s ≡ refuses bad_condition
    unfolding by_tree
    seven_by none e f = checked_of_lem none e
    seven_by (got t n) e f = absurd (f t (parsed_is_stated s t n e))

    seven_no_tree : check_of s ≡ refuses bad_condition → (t : Tree) → States s t → ⊥
    seven_no_tree e t x =
        no_seven (first (by_kinds (sort_of t)) (first_bad s t))
        (first_not_seven (by_kinds (sort_of t)) (first_bad s t) (kinds_not_seven (sort_of t)) (literals_not_seven s t)) (sym (tree_checked t x) ∙ e)

pub grammar_decides : GrammarDecides
grammar_decides s h k d =
    record {
      seven_without_tree = record { only = seven_no_tree s k h d; always = seven_by s k h d (parse s) refl };
      checked_by_tree = tree_checked s k h d;
      result_by_tree = λ t x zone row. result_of s k zone row t x.end (stated_is_parsed s t x d);
    }

pub accepted_by_tree : AcceptedByTree
accepted_by_tree s h =
    let x = accepted_stated s h in
    record {
      tree = x.tree;
      stated = parsed_is_stated s x.tree x.end x.stated;
      is_truth = x.is_truth;
      reads = x.reads;
      results = λ zone row. result_of s (accepted_length s h).1 zone row x.tree x.end x.stated;
    }
