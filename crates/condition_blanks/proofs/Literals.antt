-- Blanks round a literal's text, put together: the text with the blanks states the same tree, whose literal reads as it did without them.
use mathlib.Core.Path.{◌≡◌, refl, sym, ap, subst, ◌∙◌}
use mathlib.Core.Bool.{Bool, true, false}
use mathlib.Core.List.{List, [], ◌∷◌, ◌++◌, append_assoc}
use Prim.Native.Nat.{ℕ, zero, suc, ◌+◌, ◌-◌, ◌<◌, ◌≤◌}
use Prim.Native.Char.{code}
use native.Mathlib.Omega.{arith}
use lib.Dec.{eqb, ltb}
use lib.ListN.{length, take, drop, length-append, get_or-eq_default}
use borrow.Author.Tests.{eq-eqb, ltb-true, ltb-false}
use Rattle.basis.proofs.Tests.{never, both_left, both_right}
use Rattle.numerals.specs.Reading.{at}
use Rattle.value.specs.declared.Kind.{Kind}
use Rattle.text.specs.Reading.{read_as}
use Rattle.text.proofs.Blanks.{padded_reads}
use Rattle.text_blanks.specs.Blanks.{is_blank, only_blanks}
use Rattle.condition_words.specs.Words.{between, quote}
use Rattle.condition_depth.specs.Depth.{deep}
use Rattle.condition_grammar.specs.Trees.{Tree}
use Rattle.condition_grammar.specs.Productions.{States}
use Rattle.condition.specs.Condition.{max_length, as_result}
use Rattle.condition.proofs.ByTree.{grammar_decides}
use Rattle.condition_blanks.specs.Literals.{LiteralIn, around, LiteralBlanks, MeanTheSame}
use Rattle.condition_blanks.proofs.Replaced.{replaced, replaced_length}
use Rattle.condition_blanks.proofs.Carried.{between_length, between_at}
use Rattle.condition_blanks.proofs.Spans.{Inside, spans}
use Rattle.condition_blanks.proofs.Exchanged.{states_again}
use Rattle.condition_blanks.proofs.Meaning.{same_sort, same_bad, same_value_lem}
use Rattle.condition_blanks.proofs.Depths.{blank_plain, blanks_not_deeper}

-- that bytes hold no quote
abbrev Free : List ℕ → Type 0
Free r = (i : ℕ) → at r i ≡ code "\"" → ⊥

byte_free : (b : ℕ) → eqb b quote ≡ false → b ≡ code "\"" → ⊥
byte_free b e f = never (sym e ∙ eq-eqb b quote f)

blanks_free : (p : List ℕ) → only_blanks p ≡ true → Free p
unfolding only_blanks
blanks_free [] e i f = omega arith
blanks_free (b ∷ p) e zero f = byte_free b (blank_plain b (both_left (is_blank b) (only_blanks p) e)).no_quote f
blanks_free (b ∷ p) e (suc i) f = blanks_free p (both_right (is_blank b) (only_blanks p) e) i f

append_free : (x y : List ℕ) → Free x → Free y → Free (x ++ y)
append_free [] y f g i e = g i e
append_free (b ∷ x) y f g zero e = f 0 e
append_free (b ∷ x) y f g (suc i) e = append_free x y (λ j. f (suc j)) g i e

literal_free : (s : List ℕ) (a n from to : ℕ) → Inside s a n from to → to ≤ length s → Free (between s from to)
literal_free s a n from to x h i e = by (ltb i (to - from)) refl
  where
    by : (b : Bool) → ltb i (to - from) ≡ b → ⊥
    by true q = let k : i < to - from = ltb-true _ _ q in x.free (from + i) (omega arith) (omega arith) (sym (between_at s from to i k) ∙ e)
    by false q =
        let z : at (between s from to) i ≡ 0 = get_or-eq_default (between s from to) 0 (omega (arith, between_length s from to h, ltb-false i (to - from) q)) in
        omega arith

-- blanks round the bytes of a literal stand in place of them
around_replaced : (s p q : List ℕ) (from to : ℕ) → around s from to p q ≡ replaced s from to (p ++ (between s from to ++ q))
around_replaced s p q from to =
    ap (λ (x : List ℕ). take from s ++ x)
    (ap (λ (x : List ℕ). p ++ x) (sym (append_assoc (between s from to) q (drop to s))) ∙ sym (append_assoc p (between s from to ++ q) (drop to s)))

-- bytes without a quote that read as a literal's bytes do, in place of them, change nothing of what a condition means
module _ (s r : List ℕ) (from to : ℕ) (t : Tree) (x : States s t) (l : LiteralIn from to t) where
  exchanged_same : Free r → ((k : Kind) → read_as k r ≡ read_as k (between s from to)) → length s ≤ max_length → length (replaced s from to r) ≤ max_length
      → deep s ≡ false → deep (replaced s from to r) ≡ false → MeanTheSame (replaced s from to r) s
  exchanged_same free reads h k d e =
      let i = (spans x.derived).literals from to l in
      let f : from ≤ to = i.forward in
      let g : 0 < from = i.after in
      let j : to < x.end = i.before in
      let m : x.end ≤ length s = x.rest.forward in
      let u = replaced_length s r from to f (omega arith) in
      let again = states_again s r from to t x l free reads in
      let y = grammar_decides s (omega arith) h d in
      let z = grammar_decides (replaced s from to r) (omega arith) k e in
      record {
        checked = z.checked_by_tree again.tree again.stated ∙ rw (same_sort again.same, same_bad again.same) (sym (y.checked_by_tree t x));
        results = λ zone row. z.result_by_tree again.tree again.stated zone row ∙ ap as_result (same_value_lem zone row again.same) ∙ sym (y.result_by_tree t x zone row);
      }

pub literal_blanks : LiteralBlanks
literal_blanks s t from to p q x l e f k d =
    let i = (spans x.derived).literals from to l in
    let g : from ≤ to = i.forward in
    let j : to < x.end = i.before in
    let m : x.end ≤ length s = x.rest.forward in
    let h : to ≤ length s = omega arith in
    let b = between s from to in
    let r = p ++ (b ++ q) in
    let o = around_replaced s p q from to in
    let n : length (replaced s from to r) ≤ max_length = subst (λ (y : List ℕ). length y ≤ max_length) o k in
    let u : length r ≡ length p + (length b + length q) = length-append p (b ++ q) ∙ ap (λ (y : ℕ). length p + y) (length-append b q) in
    let v : length s ≤ max_length = omega (arith, replaced_length s r from to g h, between_length s from to h) in
    subst (λ (a : List ℕ). MeanTheSame a s) (sym o)
    (exchanged_same s r from to t x l
    (append_free p (b ++ q) (blanks_free p e) (append_free b q (literal_free s 0 x.end from to i h) (blanks_free q f)))
    (λ c. padded_reads c p b q e f) v n d (ap deep (sym o) ∙ blanks_not_deeper s from to p q g e f ∙ d))
