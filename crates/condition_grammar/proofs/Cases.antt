-- Worked cases: texts with the tree that each states, and texts that state none.
use mathlib.Core.Path.{◌≡◌, refl}
use mathlib.Core.Bool.{Bool, true, false, not}
use mathlib.Core.List.{List, [], ◌∷◌}
use Prim.Native.Nat.{ℕ, suc, ◌+◌, ◌-◌, ◌<◌, ◌≤◌}
use Prim.Native.Char.{code}
use native.Mathlib.Omega.{arith}
use lib.Dec.{leb, ltb, eqb}
use borrow.Author.Tests.{leb-true, ltb-true}
use Rattle.basis.specs.Choice.{pick, both}
use Rattle.basis.specs.Letters.{bytes}
use Rattle.numerals.specs.Reading.{is_digit, number}
use Rattle.value.specs.declared.Kind.TheVariants as K
use Rattle.condition_words.specs.Words.{letter, belongs, stretch_end_in, stretch_end, same}
use Rattle.condition_depth.specs.Depth.{deep, deep_from, max_depth}
use Rattle.condition_symbols.specs.Symbols as the
use Rattle.condition_symbols.specs.declared.Op.TheVariants as O
use Rattle.condition_grammar.specs.Grammar.{none, closed_at, many, repeated, inner, condition_in, condition_more_in, clause_in, clause_more_in, test_in, sum_in, sum_more_in, term_in, term_more_in, factor_in, held_in}
use Rattle.condition_grammar.specs.Trees.{Tree, leaf, one, two, field, times, parse}
use Rattle.condition_grammar.specs.Productions.{States}
use Rattle.condition_grammar.proofs.Ends.{picked}
use Rattle.condition_grammar.proofs.Derived.{parsed_is_stated}
use Rattle.condition_grammar.proofs.Derivations.{refused_states_none}

-- `xs:date($i)`, its word at w and its `$` at p
abbrev day : ℕ → ℕ → ℕ → Tree
day w i p = leaf K.Date w (field i p)

-- a sum is taken from the left; `and` binds more strongly than `or`, on either side of it; a whole number's minus stands directly before its digits
pub texts_state :
    States (bytes "xs:date($1) - xs:date($2)+xs:date( $3 )  ") (two O.Plus 0 25 (two O.Minus 0 12 (day 0 1 8) (day 14 2 22)) (day 26 3 35)) ×
    States (bytes "xs:date($1) and xs:date($2) or xs:date($3) and xs:date($4)") (two O.Or 0 28 (two O.And 0 12 (day 0 1 8) (day 16 2 24)) (two O.And 31 43 (day 31 3 39) (day 47 4 55))) ×
    States (bytes "xs:date($1)* -5 * 07") (one (times false 7) 18 (one (times true 5) 13 (day 0 1 8)))
unfolding parse condition_in condition_more_in clause_in clause_more_in test_in sum_in sum_more_in term_in term_more_in factor_in held_in inner many repeated closed_at the.mark_at the.operator_at the.comparing the.comparison_at the.sign_at the.named the.start_at the.text_from the.field_of the.field_from the.held_at the.whole_of the.whole_from the.multiplier_at number is_digit both letter belongs stretch_end_in stretch_end same
texts_state = (parsed_is_stated _ _ 39 refl, parsed_is_stated _ _ 58 refl, parsed_is_stated _ _ 20 refl)

-- a text with at most sixteen opening parentheses is not too deep
unfoldable pub openings : List ℕ → ℕ
openings [] = 0
openings (x ∷ xs) = pick (eqb x (code "(")) (suc (openings xs)) (openings xs)

few_from : (o c : ℕ) (q : Bool) (xs : List ℕ) → o + openings xs ≤ max_depth → deep_from o c q xs ≡ false
unfolding deep_from openings
few_from o c q [] h = refl
few_from o c q (x ∷ xs) h = by (eqb x (code "(")) refl h (λ a b r g. few_from a b r xs g)
  where
    Falls : Bool → Type 0
    Falls d = d ≡ false

    by : (t : Bool) → eqb x (code "(") ≡ t → o + pick t (suc (openings xs)) (openings xs) ≤ max_depth →
        ((a b : ℕ) (r : Bool) → a + openings xs ≤ max_depth → deep_from a b r xs ≡ false) →
        pick (eqb x (code "\"")) (deep_from o c (not q) xs)
        (pick q (deep_from o c q xs)
        (pick t (pick (ltb max_depth (o + 1 - c)) true (deep_from (o + 1) c q xs))
        (pick (eqb x (code ")")) (deep_from o (c + 1) q xs) (deep_from o c q xs)))) ≡ false
    by true e g f = picked Falls (eqb x (code "\"")) _ _ (λ i. f o c (not q) (omega arith)) (λ i. picked Falls q _ _ (λ j. f o c q (omega arith))
        (λ j. picked Falls (ltb max_depth (o + 1 - c)) _ _ (λ k. let l : max_depth < o + 1 - c = ltb-true _ _ k in absurd (omega arith)) (λ k. f (o + 1) c q (omega arith))))
    by false e g f = picked Falls (eqb x (code "\"")) _ _ (λ i. f o c (not q) g) (λ i. picked Falls q _ _ (λ j. f o c q g)
        (λ j. picked Falls (eqb x (code ")")) _ _ (λ k. f o (c + 1) q g) (λ k. f o c q g)))

pub few_not_deep : (s : List ℕ) → leb (openings s) max_depth ≡ true → deep s ≡ false
unfolding deep
few_not_deep s e = few_from 0 0 false s (let h : openings s ≤ max_depth = leb-true _ _ e in omega arith)

-- `$n` has no leading zero, a test has one comparison, a minus and its digits have no space between, a text is no factor, and a word is a longest
-- run: these texts state no tree
abbrev StatesNone : List ℕ → Type 0
StatesNone s = (t : Tree) → States s t → ⊥

none_stated : (s : List ℕ) → leb (openings s) max_depth ≡ true → parse s ≡ none → StatesNone s
none_stated s d e = refused_states_none s (few_not_deep s d) e

pub texts_state_none :
    StatesNone (bytes "xs:date($01)") ×
    StatesNone (bytes "xs:date($1) eq xs:date($2) eq xs:date($3)") ×
    StatesNone (bytes "xs:date($1) * - 5") ×
    StatesNone (bytes "xs:date((\"2000-01-01\"))") ×
    StatesNone (bytes "xs:date($1)orxs:date($2)")
unfolding parse condition_in condition_more_in clause_in clause_more_in test_in sum_in sum_more_in term_in term_more_in factor_in held_in inner many repeated closed_at the.mark_at the.operator_at the.comparing the.comparison_at the.sign_at the.named the.start_at the.text_from the.field_of the.field_from the.held_at the.whole_of the.whole_from the.multiplier_at number is_digit both letter belongs stretch_end_in stretch_end same openings
texts_state_none = (none_stated _ refl refl, none_stated _ refl refl, none_stated _ refl refl, none_stated _ refl refl, none_stated _ refl refl)
