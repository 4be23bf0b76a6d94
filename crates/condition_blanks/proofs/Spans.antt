-- Where the literals of a part stand: between the offsets from which and up to which the part stands, each with its quotes.
use mathlib.Core.Path.{◌≡◌, subst}
use mathlib.Core.Bool.{Bool}
use mathlib.Core.List.{List}
use mathlib.Core.Logic.{◌⊎◌, inl, inr}
use Prim.Native.Nat.{ℕ, ◌<◌, ◌≤◌}
use Prim.Native.Char.{Char, code}
use Prim.Native.String.{String}
use native.Mathlib.Nat.{le_refl}
use native.Mathlib.Omega.{arith}
use Rattle.numerals.specs.Reading.{at}
use Rattle.value.specs.declared.Kind.{Kind}
use Rattle.condition_symbols.specs.declared.Op.{Op}
use Rattle.condition_grammar.specs.Trees.{Tree, Below, leaf, one, two, literal}
use Rattle.condition_grammar.specs.Productions.{OneByte, Word, Field, numbered, Quoted, quoted, Whole, unsigned, signed, Sign, plus, minus, Comparison, eq, ne, lt, le, gt, ge, Phrase, Derives, one_clause, or_clause, one_test, and_test, lone_sum, two_sums, one_term, signed_term, one_factor, times_whole, enclosed, of_named_kind, a_text, a_field, a_cast}
use Rattle.condition_grammar.proofs.Stretches.{digits_from}
use Rattle.condition_blanks.specs.Literals.{LiteralIn}
use Rattle.condition_blanks.proofs.Leaves.{at_leaf, at_field, at_one, at_two}

-- a literal without a quote inside, after a and before n
pub record Inside (s : List ℕ) (a n from to : ℕ) : Type 0 where
  pub after : a < from
  pub forward : from ≤ to
  pub free : (i : ℕ) → from ≤ i → i < to → at s i ≡ code "\"" → ⊥
  pub before : to < n

pub record Spans (s : List ℕ) (t : Tree) (a n : ℕ) : Type 0 where
  pub forward : a ≤ n
  pub literals : (from to : ℕ) → LiteralIn from to t → Inside s a n from to

module _ {s : List ℕ} where
  pub mark_forward : {w : Char} {a p n : ℕ} → OneByte s w a p n → a < n
  mark_forward m = omega (arith, m.next, m.spaces.forward)

  pub word_forward : {w : String} {a p n : ℕ} → Word s w a p n → a ≤ n
  word_forward m = omega (arith, m.longest.forward, m.spaces.forward)

  pub field_forward : {i a p n : ℕ} → Field s i a p n → a ≤ n
  field_forward (numbered d l z h k) = omega (arith, mark_forward d, digits_from s l.digits)

  pub whole_forward : {v : ℕ} {b : Bool} {a p n : ℕ} → Whole s v b a p n → a ≤ n
  whole_forward (unsigned g l h k) = omega (arith, g.forward)
  whole_forward (signed d l h k) = omega (arith, mark_forward d)

  pub sign_forward : {o : Op} {a p n : ℕ} → Sign s o a p n → a ≤ n
  sign_forward (plus m) = omega (arith, mark_forward m)
  sign_forward (minus m) = omega (arith, mark_forward m)

  pub comparison_forward : {o : Op} {a p n : ℕ} → Comparison s o a p n → a ≤ n
  comparison_forward (eq w) = word_forward w
  comparison_forward (ne w) = word_forward w
  comparison_forward (lt w) = word_forward w
  comparison_forward (le w) = word_forward w
  comparison_forward (gt w) = word_forward w
  comparison_forward (ge w) = word_forward w

  -- a stretch that reaches further holds the same literals
  wider : {a b c n from to : ℕ} → Inside s b c from to → a ≤ b → c ≤ n → Inside s a n from to
  wider l h k = record { after = omega (arith, l.after); forward = l.forward; free = l.free; before = omega (arith, l.before) }

  pub spans_wider : {t : Tree} {a b c n : ℕ} → Spans s t b c → a ≤ b → c ≤ n → Spans s t a n
  spans_wider x h k = record { forward = omega (arith, x.forward); literals = λ from to l. wider (x.literals from to l) h k }

  spans_one : {b : Below} {p : ℕ} {t : Tree} {a n : ℕ} → Spans s t a n → Spans s (one b p t) a n
  spans_one x = record { forward = x.forward; literals = λ from to l. x.literals from to (at_one l) }

  spans_two : {o : Op} {z p : ℕ} {t u : Tree} {a b c n : ℕ} → Spans s t a b → b ≤ c → Spans s u c n → Spans s (two o z p t u) a n
  spans_two {t = t} {u = u} {a = a} {b = b} {c = c} {n = n} x h y =
      let f : a ≤ b = x.forward in
      let g : c ≤ n = y.forward in
      record { forward = omega arith; literals = λ from to l. by from to (at_two l) }
    where
      by : (from to : ℕ) → LiteralIn from to t ⊎ LiteralIn from to u → Inside s a n from to
      by from to (inl l) = wider (x.literals from to l) (omega arith) (omega (arith, y.forward))
      by from to (inr l) = wider (y.literals from to l) (omega (arith, x.forward)) (omega arith)

  spans_text : {k : Kind} {w from to a n : ℕ} → Quoted s from to a n → Spans s (leaf k w (literal from to)) a n
  spans_text {a = a} {n = n} (quoted {from = from} {to = to} m f v e g) =
      let u : a < from = mark_forward m in
      record { forward = omega arith; literals = λ from' to' l. by from' to' (at_leaf l) }
    where
      by : (i j : ℕ) → (from ≡ i) × (to ≡ j) → Inside s a n i j
      by i j e =
          subst (λ x. Inside s a n x j) e.0
          (subst (λ x. Inside s a n from x) e.1 (record { after = mark_forward m; forward = f; free = v; before = omega arith }))

  pub spans : {P : Phrase} {t : Tree} {a n : ℕ} → Derives s P t a n → Spans s t a n
  spans (one_clause x) = spans x
  spans (or_clause g x e y) = spans_two (spans x) (word_forward e) (spans y)
  spans (one_test x) = spans x
  spans (and_test g x e y) = spans_two (spans x) (word_forward e) (spans y)
  spans (lone_sum x) = spans x
  spans (two_sums g x e y) = spans_two (spans x) (comparison_forward e) (spans y)
  spans (one_term x) = spans x
  spans (signed_term g x e y) = spans_two (spans x) (sign_forward e) (spans y)
  spans (one_factor x) = spans x
  spans (times_whole {a = a} x e y) = spans_one (spans_wider (spans x) (le_refl a) (omega (arith, mark_forward e, whole_forward y)))
  spans (enclosed e x f) = spans_wider (spans x) (omega (arith, mark_forward e)) (omega (arith, mark_forward f))
  spans (of_named_kind w e x f) = spans_wider (spans x) (omega (arith, word_forward w, mark_forward e)) (omega (arith, mark_forward f))
  spans (a_text x) = spans_text x
  spans (a_field x) = record { forward = field_forward x; literals = λ from to l. absurd (at_field l) }
  spans (a_cast x) = spans_one (spans x)
