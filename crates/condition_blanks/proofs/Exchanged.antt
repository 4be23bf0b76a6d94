-- Other bytes in place of a literal's: the text states the same tree again, but for its offsets and that literal. What stands before the
-- literal stays where it was, what stands after it is moved, and in the part that has the literal only its own quotes are farther apart.
use mathlib.Core.Path.{◌≡◌, refl, sym, ap, ◌∙◌}
use mathlib.Core.List.{List}
use mathlib.Core.Logic.{◌⊎◌, inl, inr}
use Prim.Native.Nat.{ℕ, ◌+◌, ◌-◌, ◌<◌, ◌≤◌}
use Prim.Native.Char.{code}
use native.Mathlib.Nat.{le_refl}
use native.Mathlib.Omega.{arith}
use lib.ListN.{length}
use Rattle.numerals.specs.Reading.{at}
use Rattle.value.specs.declared.Kind.{Kind}
use Rattle.text.specs.Reading.{read_as}
use Rattle.condition_words.specs.Words.{skipped, between}
use Rattle.condition_symbols.specs.declared.Op.{Op}
use Rattle.condition_grammar.specs.Trees.{Tree, Below, leaf, one, two, literal, field, cast, times}
use Rattle.condition_grammar.specs.Productions.{Spaces, Field, Quoted, quoted, Phrase, Condition, Clause, Test, Sum, Term, Factor, Argument, Derives, one_clause, or_clause, one_test, and_test, lone_sum, two_sums, one_term, signed_term, one_factor, times_whole, enclosed, of_named_kind, a_text, a_field, a_cast, States}
use Rattle.condition_grammar.proofs.Stretches.{spaces_stand}
use Rattle.condition_grammar.proofs.Standing.{Operator, or, and, comparison, sign}
use Rattle.condition_blanks.specs.Literals.{LiteralIn}
use Rattle.condition_blanks.proofs.Replaced.{replaced, replaced_length, byte_before, byte_in, byte_after, bytes_in}
use Rattle.condition_blanks.proofs.Carried.{Carried, cut, carry_longest, carry_mark, carry_word, carry_field, carry_whole, carry_operator, carry_text}
use Rattle.condition_blanks.proofs.Meaning.{Same, literals, fields, ones, twos}
use Rattle.condition_blanks.proofs.Leaves.{at_leaf, at_field, at_one, at_two}
use Rattle.condition_blanks.proofs.Spans.{Spans, spans, spans_wider, mark_forward, word_forward, whole_forward, sign_forward, comparison_forward}

-- an argument's kind has its name at another offset
abbrev renamed : ℕ → Phrase → Phrase
renamed w Condition = Condition
renamed w Clause = Clause
renamed w Test = Test
renamed w Sum = Sum
renamed w Term = Term
renamed w Factor = Factor
renamed w (Argument k v) = Argument k w

-- a part of s' that states the same tree
record Again (s s' : List ℕ) (P : Phrase) (t : Tree) (a n : ℕ) : Type 0 where
  tree : Tree
  derived : Derives s' P tree a n
  same : Same s s' t tree

-- the parts that the operators of a part join
abbrev left_of : Phrase → Phrase
left_of Condition = Condition
left_of Clause = Clause
left_of Test = Sum
left_of Sum = Sum
left_of Term = Term
left_of Factor = Factor
left_of (Argument k w) = Argument k w

abbrev right_of : Phrase → Phrase
right_of Condition = Clause
right_of Clause = Test
right_of Test = Sum
right_of Sum = Term
right_of Term = Term
right_of Factor = Factor
right_of (Argument k w) = Argument k w

join : {s : List ℕ} {P : Phrase} {t u : Tree} {o : Op} {a z b p c n : ℕ} → Operator s P o b p c → Spaces s a z → Derives s (left_of P) t a b → Derives s (right_of P) u c n →
    Derives s P (two o z p t u) a n
join (or w) g x y = or_clause g x w y
join (and w) g x y = and_test g x w y
join (comparison w) g x y = two_sums g x w y
join (sign w) g x y = signed_term g x w y

module _ (s r : List ℕ) (from to : ℕ) where
  abbrev s' : List ℕ
  s' = replaced s from to r

  -- a part stands apart from the literal, or has it
  data Place (t : Tree) (a n a' n' : ℕ) : Type 0 where
    apart : Carried s s' a n a' n' → Place t a n a' n'
    has : LiteralIn from to t → a' ≡ a → n' + to ≡ n + (from + length r) → n ≤ length s → Place t a n a' n'

  module _ (f : from ≤ to) (h : to ≤ length s) where
    before : (a n a' : ℕ) → a' ≡ a → a ≤ n → n < from → Carried s s' a n a' n
    before a n a' e k l =
        record {
          more = 0;
          less = 0;
          begins = omega arith;
          ends = refl;
          within = omega arith;
          fits = omega (arith, replaced_length s r from to f h);
          same = λ i j p q g. let d : j ≡ i = omega arith in ap (λ (x : ℕ). at s' x) d ∙ byte_before s r from to f h i (omega arith);
        }

    -- where an offset after the literal is moved to
    abbrev moved : ℕ → ℕ
    moved a = a + (from + length r) - to

    after : (a n n' : ℕ) → to ≤ a → a ≤ n → n ≤ length s → n' + to ≡ n + (from + length r) → Carried s s' a n (moved a) n'
    after a n n' k l m e =
        record {
          more = from + length r;
          less = to;
          begins = omega arith;
          ends = e;
          within = m;
          fits = omega (arith, replaced_length s r from to f h);
          same = λ i j p q g. byte_after s r from to f h i j (omega arith) g;
        }

    place_fits : {t : Tree} {a n a' n' : ℕ} → Place t a n a' n' → Spans s t a n → a' ≤ length s'
    place_fits (apart x) p = omega (arith, x.begins, x.ends, x.fits, p.forward)
    place_fits (has l e g m) p = let q = p.literals from to l in omega (arith, q.after, replaced_length s r from to f h)

    place_below : {b : Below} {p : ℕ} {t : Tree} {a n a' n' : ℕ} → Place (one b p t) a n a' n' → Place t a n a' n'
    place_below (apart x) = apart x
    place_below (has l e g m) = has (at_one l) e g m

    -- a part with symbols after it
    record Headed (t : Tree) (a b n a' n' : ℕ) : Type 0 where
      b' : ℕ
      part : Place t a b a' b'
      rest : Carried s s' b n b' n'

    headed : {t : Tree} {a b n a' n' : ℕ} → Place t a n a' n' → Spans s t a b → b ≤ n → Headed t a b n a' n'
    headed (apart x) p k = let y = cut x p.forward k in record { b' = y.mid; part = apart y.left; rest = y.right }
    headed {b = b} {n = n} {n' = n'} (has l e g m) p k =
        let i : to < b = (p.literals from to l).before in
        record { b' = moved b; part = has l e (omega arith) (omega arith); rest = after b n n' (omega arith) k m g }

    -- a part with symbols before it
    record Trailed (t : Tree) (a c n a' n' : ℕ) : Type 0 where
      c' : ℕ
      rest : Carried s s' a c a' c'
      part : Place t c n c' n'

    trailed : {t : Tree} {a c n a' n' : ℕ} → Place t a n a' n' → a ≤ c → Spans s t c n → Trailed t a c n a' n'
    trailed (apart x) k p = let y = cut x k p.forward in record { c' = y.mid; rest = y.left; part = apart y.right }
    trailed {a = a} {c = c} {a' = a'} (has l e g m) k p = record { c' = c; rest = before a c a' e k (p.literals from to l).after; part = has l refl g m }

    -- two parts with a symbol between them
    record Parted (t u : Tree) (a b c n a' n' : ℕ) : Type 0 where
      b' : ℕ
      c' : ℕ
      left : Place t a b a' b'
      middle : Carried s s' b c b' c'
      right : Place u c n c' n'

    parted : {o : Op} {z p : ℕ} {t u : Tree} {a b c n a' n' : ℕ} → Place (two o z p t u) a n a' n' → Spans s t a b → b ≤ c → Spans s u c n → Parted t u a b c n a' n'
    parted (apart x) p k q =
        let y = cut x p.forward (omega (arith, q.forward)) in
        let z = cut y.right k q.forward in
        record { b' = y.mid; c' = z.mid; left = apart y.left; middle = z.left; right = apart z.right }
    parted {t = t} {u = u} {a = a} {b = b} {c = c} {n = n} {a' = a'} {n' = n'} (has l e g m) p k q = by (at_two l)
      where
        by : LiteralIn from to t ⊎ LiteralIn from to u → Parted t u a b c n a' n'
        by (inl v) =
            let i : to < b = (p.literals from to v).before in
            let j : c ≤ n = q.forward in
            record {
              b' = moved b;
              c' = moved c;
              left = has v e (omega arith) (omega arith);
              middle = after b c (moved c) (omega arith) k (omega arith) (omega arith);
              right = apart (after c n n' (omega arith) j m g);
            }
        by (inr v) =
            let i : c < from = (q.literals from to v).after in
            let j : a ≤ b = p.forward in
            record {
              b' = b;
              c' = c;
              left = apart (before a b a' e j (omega arith));
              middle = before b c b refl k i;
              right = has v refl g m;
            }

    module _ (free : (i : ℕ) → at r i ≡ code "\"" → ⊥) (reads : (k : Kind) → read_as k r ≡ read_as k (between s from to)) where
      -- the literal itself
      exchanged_text : {i j a n : ℕ} (a' n' : ℕ) → Quoted s i j a n → i ≡ from → j ≡ to → a' ≡ a → n' + to ≡ n + (from + length r) → Quoted s' from (from + length r) a' n'
      exchanged_text {i} {j} {a} {n} a' n' (quoted {p = p} m l v e g) u w d k =
          let x : i ≡ p + 1 = m.next in
          quoted {p = p} {from = from} {to = from + length r} {n = n'}
          (record {
            spaces = carry_longest (before a p a' d m.spaces.forward (omega arith)) m.spaces;
            stands = byte_before s r from to f h p (omega arith) ∙ m.stands;
            next = omega arith;
          })
          (omega arith)
          (λ q c b y. let o : from + (q - from) ≡ q = omega arith in
          free (q - from) (sym (byte_in s r from to f h (q - from) (omega arith)) ∙ ap (λ (z : ℕ). at s' z) o ∙ y))
          (byte_after s r from to f h to (from + length r) (omega arith) (omega arith) ∙ ap (λ (z : ℕ). at s z) (sym w) ∙ e)
          (omega arith)

      text_again : {k : Kind} {i j a n : ℕ} (v w a' n' : ℕ) → Quoted s i j a n → Place (leaf k v (literal i j)) a n a' n' → Again s s' (Argument k w) (leaf k v (literal i j)) a' n'
      text_again {k} v w a' n' x (apart c) =
          let y = carry_text x c in
          record { tree = leaf k w (literal y.from' y.to'); derived = a_text y.quotes; same = literals (ap (read_as k) y.bytes) }
      text_again {k} {i} {j} v w a' n' x (has l e g m) =
          let q = at_leaf l in
          record {
            tree = leaf k w (literal from (from + length r));
            derived = a_text (exchanged_text a' n' x q.0 q.1 e g);
            same = literals (ap (read_as k) (bytes_in s r from to f h) ∙ reads k ∙ sym (ap (λ (y : ℕ). read_as k (between s from y)) q.1) ∙ sym (ap (λ (y : ℕ). read_as k (between s y j)) q.0));
          }

      field_again : {k : Kind} {i p a n : ℕ} (v w a' n' : ℕ) → Field s i a p n → Place (leaf k v (field i p)) a n a' n' → Again s s' (Argument k w) (leaf k v (field i p)) a' n'
      field_again {k} {i} v w a' n' x (apart c) = let y = carry_field x c in record { tree = leaf k w (field i y.0); derived = a_field y.1; same = fields }
      field_again v w a' n' x (has l e g m) = absurd (at_field l)

      -- a part of one part, and one of two
      alone : {P Q : Phrase} {t : Tree} {a n : ℕ} → ((u : Tree) → Derives s' P u a n → Derives s' Q u a n) → Again s s' P t a n → Again s s' Q t a n
      alone f c = record { tree = c.tree; derived = f c.tree c.derived; same = c.same }

      joined : {P : Phrase} {t u : Tree} {o : Op} {z a b p c n a' n' : ℕ} → Operator s P o b p c → Spans s t a b → (q : Parted t u a b c n a' n') →
          Again s s' (left_of P) t a' q.b' → Again s s' (right_of P) u q.c' n' → Again s s' P (two o z p t u) a' n'
      joined {o = o} {a' = a'} e x q c d =
          let m = carry_operator e q.middle in
          record {
            tree = two o (skipped s' a') m.0 c.tree d.tree;
            derived = join m.1 (spaces_stand s' a' (place_fits q.left x)) c.derived d.derived;
            same = twos c.same d.same;
          }

      -- every part again
      carry : {P : Phrase} {t : Tree} {a n : ℕ} → Derives s P t a n → (w a' n' : ℕ) → Place t a n a' n' → Again s s' (renamed w P) t a' n'
      carry (one_clause x) w a' n' pl = alone (λ u d. one_clause d) (carry x w a' n' pl)
      carry (or_clause g x e y) w a' n' pl =
          let q = parted pl (spans x) (word_forward e) (spans y) in
          joined (or e) (spans x) q (carry x w a' q.b' q.left) (carry y w q.c' n' q.right)
      carry (one_test x) w a' n' pl = alone (λ u d. one_test d) (carry x w a' n' pl)
      carry (and_test g x e y) w a' n' pl =
          let q = parted pl (spans x) (word_forward e) (spans y) in
          joined (and e) (spans x) q (carry x w a' q.b' q.left) (carry y w q.c' n' q.right)
      carry (lone_sum x) w a' n' pl = alone (λ u d. lone_sum d) (carry x w a' n' pl)
      carry (two_sums g x e y) w a' n' pl =
          let q = parted pl (spans x) (comparison_forward e) (spans y) in
          joined (comparison e) (spans x) q (carry x w a' q.b' q.left) (carry y w q.c' n' q.right)
      carry (one_term x) w a' n' pl = alone (λ u d. one_term d) (carry x w a' n' pl)
      carry (signed_term g x e y) w a' n' pl =
          let q = parted pl (spans x) (sign_forward e) (spans y) in
          joined (sign e) (spans x) q (carry x w a' q.b' q.left) (carry y w q.c' n' q.right)
      carry (one_factor x) w a' n' pl = alone (λ u d. one_factor d) (carry x w a' n' pl)
      carry (times_whole {negative = negative} {v = v} {b = b} {c = i} {n = n} x e y) w a' n' pl =
          let j : b < i = mark_forward e in
          let k : i ≤ n = whole_forward y in
          let q = headed (place_below pl) (spans x) (omega arith) in
          let u = cut q.rest (omega arith) k in
          let c = carry x w a' q.b' q.part in
          let m = carry_whole y u.right in
          record { tree = one (times negative v) m.0 c.tree; derived = times_whole c.derived (carry_mark e u.left).1 m.1; same = ones c.same }
      carry (enclosed {a = a} {c = i} {b = b} {n = n} e x z) w a' n' pl =
          let j : a < i = mark_forward e in
          let k : b < n = mark_forward z in
          let q = trailed pl (omega arith) (spans_wider (spans x) (le_refl i) (omega arith)) in
          let u = headed q.part (spans x) (omega arith) in
          let c = carry x w q.c' u.b' u.part in
          record { tree = c.tree; derived = enclosed (carry_mark e q.rest).1 c.derived (carry_mark z u.rest).1; same = c.same }
      carry (of_named_kind {a = a} {m = l} {c = i} {b = b} {n = n} v e x z) w a' n' pl =
          let o : a ≤ l = word_forward v in
          let j : l < i = mark_forward e in
          let k : b < n = mark_forward z in
          let q = trailed pl (omega arith) (spans_wider (spans x) (le_refl i) (omega arith)) in
          let u = headed q.part (spans x) (omega arith) in
          let y = cut q.rest o (omega arith) in
          let m = carry_word v y.left in
          let c = carry x m.0 q.c' u.b' u.part in
          record { tree = c.tree; derived = of_named_kind m.1 (carry_mark e y.right).1 c.derived (carry_mark z u.rest).1; same = c.same }
      carry (a_text {w = v} x) w a' n' pl = text_again v w a' n' x pl
      carry (a_field {w = v} x) w a' n' pl = field_again v w a' n' x pl
      carry (a_cast {k = k} x) w a' n' pl = let c = carry x w a' n' (place_below pl) in record { tree = one (cast k) w c.tree; derived = a_cast c.derived; same = ones c.same }

-- a text that states the same tree
pub record StatesAgain (s s' : List ℕ) (t : Tree) : Type 0 where
  pub tree : Tree
  pub stated : States s' tree
  pub same : Same s s' t tree

-- bytes without a quote, read as a literal's bytes are, in place of them
pub states_again : (s r : List ℕ) (from to : ℕ) (t : Tree) → States s t → LiteralIn from to t → ((i : ℕ) → at r i ≡ code "\"" → ⊥) → ((k : Kind) → read_as k r ≡ read_as k (between s from to)) → StatesAgain s (replaced s from to r) t
states_again s r from to t x l free reads =
    let p = (spans x.derived).literals from to l in
    let f : from ≤ to = p.forward in
    let g : to < x.end = p.before in
    let e : x.end ≤ length s = x.rest.forward in
    let h : to ≤ length s = omega arith in
    let n = x.end + (from + length r) - to in
    let c = carry s r from to f h free reads x.derived 0 0 n (has l refl (omega arith) e) in
    record {
      tree = c.tree;
      stated =
          record {
            end = n;
            derived = c.derived;
            rest = carry_longest (after s r from to f h x.end (length s) (length (replaced s from to r)) (omega arith) e (le_refl (length s)) (replaced_length s r from to f h)) x.rest;
          };
      same = c.same;
    }
