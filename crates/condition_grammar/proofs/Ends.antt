-- A symbol that was found ends past the offset where it was looked for, and within the text. So what reads on after it has
-- less text before it.
use mathlib.Core.Path.{◌≡◌, refl}
use mathlib.Core.Bool.{Bool, true, false}
use mathlib.Core.List.{List}
use Prim.Native.Nat.{ℕ, ◌+◌, ◌<◌, ◌≤◌}
use Prim.Native.Char.{code}
use native.Mathlib.Omega.{arith}
use lib.Dec.{leb, ltb, eqb}
use lib.ListN.{length, get_or}
use borrow.Author.Tests.{leb-true, leb-false, ltb-true, eqb-true, eqb-false}
use Rattle.std.specs.Prelude.{Option, Some, None, Result, Ok, Err}
use Rattle.basis.specs.Choice.{pick}
use Rattle.basis.specs.Letters.{bytes}
use Rattle.numerals.specs.Reading.{numeral_at}
use Rattle.numerals.proofs.Positions.{within}
use Rattle.numerals.proofs.Stretches.{stretch_le, stretch_lt}
use Rattle.numerals.proofs.Powers.{widened}
use Rattle.value.specs.declared.Kind.{Kind}
use Rattle.condition_words.specs.Words.{stretch_end, skipped, word_at, same}
use Rattle.condition_symbols.specs.Symbols as the
use Rattle.condition_words.proofs.Stretching.{word_end, stretch_from, stretch_within, stretch_past}
use Rattle.condition_words.proofs.Sameness.{lengths_differ}
use Rattle.condition_words.specs.declared.Class.{Class}
use Rattle.condition_words.specs.declared.Class.TheVariants.{Letter, Unquoted, Space}
use Rattle.condition_symbols.specs.declared.Op.{Op}
use Rattle.condition_symbols.specs.declared.Op.TheVariants as O
use Rattle.condition_symbols.specs.declared.Joint.{Joint}
use Rattle.condition_symbols.specs.declared.Start.{Start}
use Rattle.condition_symbols.specs.declared.Start.TheVariants as S
use Rattle.condition_symbols.specs.declared.Multiplier.{Multiplier}
use Rattle.condition_symbols.specs.declared.NoNumber.{NoNumber}
use Rattle.condition_symbols.specs.declared.Held.{Held}
use Rattle.condition_symbols.specs.declared.Held.TheVariants as H

-- n lies past an offset, and within a text of so many bytes
abbrev pub Past : ℕ → ℕ → ℕ → Type 0
Past L at n = (at < n) × (n ≤ L)

abbrev pub PastMark : ℕ → ℕ → Option ℕ → Type 0
PastMark L at None = Unit {0}
PastMark L at (Some n) = Past L at n

abbrev pub PastJoint : ℕ → ℕ → Option Joint → Type 0
PastJoint L at None = Unit {0}
PastJoint L at (Some j) = Past L at j.end

abbrev pub PastStart : ℕ → ℕ → Option Start → Type 0
PastStart L at None = Unit {0}
PastStart L at (Some (S.Open n)) = Past L at n
PastStart L at (Some (S.Make k p n)) = Past L at n

abbrev pub PastHeld : ℕ → ℕ → Option Held → Type 0
PastHeld L at (Some (H.Text a b n)) = Past L at n
PastHeld L at (Some (H.Field i p n)) = Past L at n
PastHeld L at None = Unit {0}
PastHeld L at (Some H.Sum) = Unit {0}

abbrev pub PastMultiplier : ℕ → ℕ → the.Multiplied → Type 0
PastMultiplier L at (Ok None) = Unit {0}
PastMultiplier L at (Err x) = Unit {0}
PastMultiplier L at (Ok (Some m)) = Past L at m.end

-- what holds of both answers of a choice, each under its test, holds of the choice
pub picked : {A : Type 0} (P : A → Type 0) (b : Bool) (x y : A) → (b ≡ true → P x) → (b ≡ false → P y) → P (pick b x y)
picked P true x y p q = p refl
picked P false x y p q = q refl

pub stands_at : (s : List ℕ) (p c : ℕ) → eqb (get_or s p 0) c ≡ true → leb 1 c ≡ true → p < length s
stands_at s p c e k = within s p c (eqb-true _ _ e) (leb-true 1 c k)

skips_from : (s : List ℕ) (at : ℕ) → at ≤ skipped s at
skips_from s at = stretch_from Space s at

-- a stretch that is not empty ends within the text
stretch_in : (c : Class) (s : List ℕ) (p : ℕ) → p < stretch_end c s p → stretch_end c s p ≤ length s
stretch_in c s p h = by (leb (length s) p) refl
  where
    by : (b : Bool) → leb (length s) p ≡ b → stretch_end c s p ≤ length s
    by true e = absurd (omega (arith, stretch_past c s p (leb-true _ _ e)))
    by false e = let k : p < length s = leb-false _ _ e in stretch_within c s p (omega arith)

-- a word that is the same as one with letters has letters
same_long : (a b : List ℕ) → same a b ≡ true → leb 1 (length b) ≡ true → 1 ≤ length a
same_long a b e h = by (eqb (length a) (length b)) refl
  where
    by : (t : Bool) → eqb (length a) (length b) ≡ t → 1 ≤ length a
    by true q = let k : length a ≡ length b = eqb-true _ _ q in omega (arith, leb-true 1 (length b) h)
    by false q = let z : ◌≡◌ {A = ℕ} 0 1 = cc (e, lengths_differ a b (eqb-false _ _ q)) in absurd (omega arith)

next_past : (s : List ℕ) (at c : ℕ) → eqb (get_or s (skipped s at) 0) c ≡ true → leb 1 c ≡ true → Past (length s) at (skipped s at + 1)
next_past s at c e h = let k : skipped s at < length s = stands_at s (skipped s at) c e h in (omega (arith, skips_from s at), omega arith)

pub mark_past : (s : List ℕ) (at b : ℕ) → leb 1 b ≡ true → PastMark (length s) at (the.mark_at s at b)
unfolding the.mark_at
mark_past s at b h = picked (PastMark (length s) at) (eqb (get_or s (skipped s at) 0) b) _ _ (λ e. next_past s at b e h) (λ e. tt)

module _ (s : List ℕ) (at : ℕ) where
  word_past : (v : List ℕ) → same (word_at s (skipped s at)) v ≡ true → leb 1 (length v) ≡ true → Past (length s) at (stretch_end Letter s (skipped s at))
  word_past v e h =
      let k : skipped s at < stretch_end Letter s (skipped s at) = omega (arith, word_end s (skipped s at), same_long (word_at s (skipped s at)) v e h) in
      (omega (arith, skips_from s at), stretch_in Letter s (skipped s at) k)

  pub closing_past : PastMark (length s) at (the.closing_at s at)
  closing_past = mark_past s at (code ")") refl

  operator_past : (v : List ℕ) (o : Op) → leb 1 (length v) ≡ true → PastJoint (length s) at (the.operator_at s at v o)
  unfolding the.operator_at
  operator_past v o h = picked (PastJoint (length s) at) (same (word_at s (skipped s at)) v) _ _ (λ e. word_past v e h) (λ e. tt)

  pub or_past : PastJoint (length s) at (the.or_at s at)
  or_past = operator_past (bytes "or") O.Or refl

  pub and_past : PastJoint (length s) at (the.and_at s at)
  and_past = operator_past (bytes "and") O.And refl

  abbrev PastWord : Option Op → Type 0
  PastWord o = PastJoint (length s) at (the.word_joint o (skipped s at) (stretch_end Letter s (skipped s at)))

  pub comparison_past : PastJoint (length s) at (the.comparison_at s at)
  unfolding the.comparison_at the.comparing
  comparison_past =
      picked PastWord (same (word_at s (skipped s at)) (bytes "eq")) _ _ (λ e. word_past (bytes "eq") e refl) (λ f.
      picked PastWord (same (word_at s (skipped s at)) (bytes "ne")) _ _ (λ e. word_past (bytes "ne") e refl) (λ f.
      picked PastWord (same (word_at s (skipped s at)) (bytes "lt")) _ _ (λ e. word_past (bytes "lt") e refl) (λ f.
      picked PastWord (same (word_at s (skipped s at)) (bytes "le")) _ _ (λ e. word_past (bytes "le") e refl) (λ f.
      picked PastWord (same (word_at s (skipped s at)) (bytes "gt")) _ _ (λ e. word_past (bytes "gt") e refl) (λ f.
      picked PastWord (same (word_at s (skipped s at)) (bytes "ge")) _ _ (λ e. word_past (bytes "ge") e refl) (λ f. tt))))))

  pub sign_past : PastJoint (length s) at (the.sign_at s at)
  unfolding the.sign_at
  sign_past = picked (PastJoint (length s) at) (eqb (get_or s (skipped s at) 0) (code "+")) _ _ (λ e. next_past s at (code "+") e refl)
      (λ f. picked (PastJoint (length s) at) (eqb (get_or s (skipped s at) 0) (code "-")) _ _ (λ e. next_past s at (code "-") e refl) (λ e. tt))

  made_past : (k : Kind) (p e : ℕ) (m : Option ℕ) → at ≤ e → PastMark (length s) e m → PastStart (length s) at (the.kind_start k p m)
  made_past k p e None h g = tt
  made_past k p e (Some n) h g = (omega arith, g.1)

  makes_past : (p : ℕ) (n : Option Kind) → at ≤ p → PastStart (length s) at (the.makes s p n)
  makes_past p None h = tt
  makes_past p (Some k) h = made_past k p (stretch_end Letter s p) (the.opening_at s (stretch_end Letter s p)) (omega (arith, stretch_from Letter s p))
      (mark_past s (stretch_end Letter s p) (code "(") refl)

  pub start_past : PastStart (length s) at (the.start_at s at)
  unfolding the.start_at
  start_past = picked (PastStart (length s) at) (eqb (get_or s (skipped s at) 0) (code "(")) _ _ (λ e. next_past s at (code "(") e refl)
      (λ f. makes_past (skipped s at) (the.named (word_at s (skipped s at))) (skips_from s at))

  text_past : (from : ℕ) → at < from → PastHeld (length s) at (the.text_from s from)
  unfolding the.text_from
  text_past from h = picked (PastHeld (length s) at) (ltb (stretch_end Unquoted s from) (length s)) _ _
      (λ e. let j : stretch_end Unquoted s from < length s = ltb-true _ _ e in (omega (arith, stretch_from Unquoted s from), omega arith)) (λ e. tt)

  field_past : (p : ℕ) → at ≤ p → p < length s → PastHeld (length s) at (the.field_from s p)
  unfolding the.field_from the.field_of
  field_past p h k = picked (PastHeld (length s) at) (eqb (get_or s (p + 1) 0) (code "0")) _ _ (λ e. tt)
      (λ e. picked (PastHeld (length s) at) (leb 1 (numeral_at s (p + 1)).value) _ _
      (λ f. picked (PastHeld (length s) at) (leb (numeral_at s (p + 1)).value 16) _ _
      (λ g. (omega arith, stretch_le s (p + 1) (omega arith))) (λ g. tt)) (λ f. tt))

  pub held_past : PastHeld (length s) at (the.held_at s at)
  unfolding the.held_at
  held_past = picked (PastHeld (length s) at) (eqb (get_or s (skipped s at) 0) (code "\"")) _ _
      (λ e. text_past (skipped s at + 1) (omega (arith, skips_from s at)))
      (λ e. picked (PastHeld (length s) at) (eqb (get_or s (skipped s at) 0) (code "$")) _ _
      (λ f. field_past (skipped s at) (skips_from s at) (stands_at s (skipped s at) (code "$") f refl)) (λ f. tt))

  abbrev PastWhole : Result Multiplier NoNumber → Type 0
  PastWhole r = PastMultiplier (length s) at (the.after_star r)

  whole_past : (b : Bool) (p d : ℕ) → at < d → d ≤ length s → PastWhole (the.whole_of b p d (numeral_at s d))
  unfolding the.whole_of
  whole_past b p d h k = picked PastWhole (leb 1 (numeral_at s d).count) _ _
      (λ e. picked PastWhole (leb (numeral_at s d).count 6) _ _ (λ f. (omega arith, stretch_le s d k)) (λ f. tt)) (λ e. tt)

  from_past : (p : ℕ) → at < p → p ≤ length s → PastWhole (the.whole_from s p)
  unfolding the.whole_from
  from_past p h k = picked PastWhole (eqb (get_or s p 0) (code "-")) _ _
      (λ e. let j : p < length s = stands_at s p (code "-") e refl in whole_past true p (p + 1) (omega arith) (omega arith))
      (λ e. whole_past false p p h k)

  pub multiplier_past : PastMultiplier (length s) at (the.multiplier_at s at)
  unfolding the.multiplier_at
  multiplier_past = picked (PastMultiplier (length s) at) (eqb (get_or s (skipped s at) 0) (code "*")) _ _
      (λ e. let j : skipped s at < length s = stands_at s (skipped s at) (code "*") e refl in
      from_past (skipped s (skipped s at + 1)) (omega (arith, skips_from s at, skips_from s (skipped s at + 1)))
      (stretch_within Space s (skipped s at + 1) (omega arith))) (λ e. tt)

-- at the end of a text no `*` stands, so none without its whole number
pub star_at_end : (s : List ℕ) (at : ℕ) → length s ≤ at → the.multiplier_at s at ≡ Err the.without_number → ⊥
unfolding the.multiplier_at
star_at_end s at h = picked (λ x. x ≡ Err the.without_number → ⊥) (eqb (get_or s (skipped s at) 0) (code "*")) _ _
    (λ e f. let k : skipped s at < length s = stands_at s (skipped s at) (code "*") e refl in omega (arith, skips_from s at))
    (λ e f. let z : ◌≡◌ {A = ℕ} 0 1 = cc in omega arith)

-- a whole number of at most six digits is below 1,000,000
abbrev pub Small : the.Multiplied → Type 0
Small (Ok None) = Unit {0}
Small (Err x) = Unit {0}
Small (Ok (Some m)) = m.number < 1000000

abbrev SmallWhole : Result Multiplier NoNumber → Type 0
SmallWhole r = Small (the.after_star r)

whole_small : (s : List ℕ) (b : Bool) (p d : ℕ) → SmallWhole (the.whole_of b p d (numeral_at s d))
unfolding the.whole_of
whole_small s b p d = picked SmallWhole (leb 1 (numeral_at s d).count) _ _
    (λ e. picked SmallWhole (leb (numeral_at s d).count 6) _ _ (λ f. widened (numeral_at s d).value (numeral_at s d).count 6 (leb-true _ _ f) (stretch_lt s d)) (λ f. tt)) (λ e. tt)

pub multiplier_small : (s : List ℕ) (at : ℕ) → Small (the.multiplier_at s at)
unfolding the.multiplier_at the.whole_from
multiplier_small s at = picked Small (eqb (get_or s (skipped s at) 0) (code "*")) _ _
    (λ e. picked SmallWhole (eqb (get_or s (skipped s (skipped s at + 1)) 0) (code "-")) _ _ (λ f. whole_small s true _ _) (λ f. whole_small s false _ _)) (λ e. tt)
