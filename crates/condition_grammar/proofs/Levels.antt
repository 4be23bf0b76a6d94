-- How many parentheses are open at an offset, outside quotes: each symbol leaves that number as it was, an opening parenthesis raises
-- it by one, and a closing one lowers it by one. In a text that is not too deep it stays within the bound.
use mathlib.Core.Path.{◌≡◌, refl, sym, ap, subst, ◌∙◌}
use mathlib.Core.Bool.{Bool, true, false}
use mathlib.Core.List.{List, [], ◌∷◌}
use Prim.Native.Nat.{ℕ, zero, suc, ◌+◌, ◌-◌, ◌*◌, ◌<◌, ◌≤◌}
use Prim.Native.Char.{code}
use native.Mathlib.Omega.{arith}
use lib.Dec.{leb, ltb, eqb}
use lib.ListN.{length, get_or, drop}
use lib.Seq.{drop-drop}
use borrow.Author.Tests.{eqb-true, ltb-true, ltb-false, ne_eqb, not-false}
use Rattle.std.specs.Prelude.{Option, Some, None, Result, Ok, Err}
use Rattle.basis.specs.Choice.{pick, both}
use Rattle.basis.specs.Letters.{bytes}
use Rattle.numerals.specs.Reading.{Number, is_digit, number, numeral_at}
use Rattle.numerals.proofs.Stretches.{a_digit}
use Rattle.value.specs.declared.Kind.{Kind}
use Rattle.condition_words.specs.Words.{letter, belongs, stretch_end_in, stretch_end, skipped, word_at, same}
use Rattle.condition_depth.specs.Depth.{deep, deep_from, max_depth}
use Rattle.condition_symbols.specs.Symbols as the
use Rattle.condition_depth.proofs.Depths.{at_quote, inside, at_opening, too_deep_lem, at_closing, at_other}
use Rattle.condition_grammar.proofs.Ends.{picked, stands_at}
use Rattle.condition_words.specs.declared.Class.{Class}
use Rattle.condition_words.specs.declared.Class.TheVariants.{Letter, Unquoted, Space}
use Rattle.condition_symbols.specs.declared.Op.{Op}
use Rattle.condition_symbols.specs.declared.Joint.{Joint}
use Rattle.condition_symbols.specs.declared.Start.{Start}
use Rattle.condition_symbols.specs.declared.Start.TheVariants as S
use Rattle.condition_symbols.specs.declared.Multiplier.{Multiplier}
use Rattle.condition_symbols.specs.declared.NoNumber.{NoNumber}
use Rattle.condition_symbols.specs.declared.Held.{Held}
use Rattle.condition_symbols.specs.declared.Held.TheVariants as H

-- so many parentheses are open at an offset: from there the depth of the text is counted on, outside quotes or inside
pub record Level (s : List ℕ) (quoted : Bool) (k at : ℕ) : Type 0 where
  pub opened : ℕ
  pub closed : ℕ
  pub apart : opened ≡ closed + k
  pub counts : deep s ≡ deep_from opened closed quoted (drop at s)

-- no quote and no parenthesis
abbrev Plain : ℕ → Type 0
Plain b = (b ≡ code "\"" → ⊥) × (b ≡ code "(" → ⊥) × (b ≡ code ")" → ⊥)

-- one byte
module _ (s : List ℕ) (k at : ℕ) (h : at < length s) where
  past_plain : Plain (get_or s at 0) → Level s false k at → Level s false k (at + 1)
  past_plain p l =
      record {
        opened = l.opened;
        closed = l.closed;
        apart = l.apart;
        counts = at_other s l.opened l.closed false at l.counts h p.0 refl p.1 p.2;
      }

  past_closing : get_or s at 0 ≡ code ")" → Level s false (k + 1) at → Level s false k (at + 1)
  past_closing e l =
      record {
        opened = l.opened;
        closed = l.closed + 1;
        apart = let a : l.opened ≡ l.closed + (k + 1) = l.apart in omega arith;
        counts = at_closing s l.opened l.closed false at l.counts h (λ n. omega arith) refl (λ n. omega arith) e;
      }

  past_opening : deep s ≡ false → get_or s at 0 ≡ code "(" → Level s false k at → (k + 1 ≤ max_depth) × Level s false (k + 1) (at + 1)
  past_opening d e l = by (ltb max_depth (l.opened + 1 - l.closed)) refl
    where
      by : (t : Bool) → ltb max_depth (l.opened + 1 - l.closed) ≡ t → (k + 1 ≤ max_depth) × Level s false (k + 1) (at + 1)
      by true g =
          let q : true ≡ deep s = too_deep_lem s l.opened l.closed false at l.counts h (λ n. omega arith) refl e (sym g) refl in
          let z : ◌≡◌ {A = ℕ} 0 1 = cc (q, d) in
          absurd (omega arith)
      by false g =
          let a : l.opened ≡ l.closed + k = l.apart in
          let b : l.opened + 1 - l.closed ≤ max_depth = ltb-false _ _ g in (
            omega arith,
            record {
              opened = l.opened + 1;
              closed = l.closed;
              apart = omega arith;
              counts = at_opening s l.opened l.closed false at l.counts h (λ n. omega arith) refl e (sym g) refl;
            },
          )

  into_quotes : get_or s at 0 ≡ code "\"" → Level s false k at → Level s true k (at + 1)
  into_quotes e l =
      record { opened = l.opened; closed = l.closed; apart = l.apart; counts = at_quote s l.opened l.closed false at l.counts h e }

  out_of_quotes : get_or s at 0 ≡ code "\"" → Level s true k at → Level s false k (at + 1)
  out_of_quotes e l =
      record { opened = l.opened; closed = l.closed; apart = l.apart; counts = at_quote s l.opened l.closed true at l.counts h e }

  within_quotes : (get_or s at 0 ≡ code "\"" → ⊥) → Level s true k at → Level s true k (at + 1)
  within_quotes n l =
      record { opened = l.opened; closed = l.closed; apart = l.apart; counts = inside s l.opened l.closed true at l.counts h n refl }

-- stretches of spaces and of letters, which have no quote and no parenthesis among them
of_no_other : (c : Class) (b n : ℕ) → belongs c n ≡ false → belongs c b ≡ true → b ≡ n → ⊥
of_no_other c b n f e q = let z : ◌≡◌ {A = ℕ} 0 1 = cc (f, e, ap (belongs c) q) in omega arith

module _ (s : List ℕ) (k : ℕ) (c : Class) (p : (b : ℕ) → belongs c b ≡ true → Plain b) where
  of_level : (n at : ℕ) → n ≤ length s - at → Level s false k at → Level s false k (stretch_end_in n c s at)
  unfolding stretch_end_in
  of_level zero at h l = l
  of_level (suc n) at h l = picked (Level s false k) (belongs c (get_or s at 0)) _ _
      (λ e. of_level n (at + 1) (omega arith) (past_plain s k at (omega arith) (p (get_or s at 0) e) l)) (λ e. l)

  stretch_level : (at : ℕ) → Level s false k at → Level s false k (stretch_end c s at)
  unfolding stretch_end
  stretch_level at l = of_level (length s - at) at (omega arith) l

space_plain : (b : ℕ) → belongs Space b ≡ true → Plain b
unfolding belongs
space_plain b e = (of_no_other Space b (code "\"") refl e, of_no_other Space b (code "(") refl e, of_no_other Space b (code ")") refl e)

letter_plain : (b : ℕ) → belongs Letter b ≡ true → Plain b
unfolding belongs letter both
letter_plain b e = (of_no_other Letter b (code "\"") refl e, of_no_other Letter b (code "(") refl e, of_no_other Letter b (code ")") refl e)

-- stretches of digits
count_from : (v k : ℕ) (xs : List ℕ) → k ≤ (number v k xs).count
unfolding number
count_from v k [] = omega arith
count_from v k (x ∷ xs) = picked (λ (r : Number). k ≤ r.count) (is_digit x) _ _ (λ e. omega (arith, count_from (v * 10 + (x - code "0")) (suc k) xs)) (λ e. omega arith)

passes : (o c x : ℕ) (xs : List ℕ) → Plain x → deep_from o c false (x ∷ xs) ≡ deep_from o c false xs
unfolding deep_from
passes o c x xs p = rw (ne_eqb _ _ p.0, ne_eqb _ _ p.1, ne_eqb _ _ p.2)

digits_pass : (o c v k n : ℕ) (xs : List ℕ) → (number v k xs).count ≡ k + n → deep_from o c false xs ≡ deep_from o c false (drop n xs)
unfolding number
digits_pass o c v k zero [] e = refl
digits_pass o c v k (suc n) [] e = refl
digits_pass o c v k n (x ∷ xs) e = by (is_digit x) refl n e (λ m f. digits_pass o c (v * 10 + (x - code "0")) (suc k) m xs f)
  where
    by : (b : Bool) → is_digit x ≡ b → (n : ℕ) → (pick b (number (v * 10 + (x - code "0")) (suc k) xs) (record { value = v; count = k })).count ≡ k + n →
        ((m : ℕ) → (number (v * 10 + (x - code "0")) (suc k) xs).count ≡ suc k + m → deep_from o c false xs ≡ deep_from o c false (drop m xs)) →
        deep_from o c false (x ∷ xs) ≡ deep_from o c false (drop n (x ∷ xs))
    by true d zero f r = absurd (omega (arith, count_from (v * 10 + (x - code "0")) (suc k) xs))
    by true d (suc n) f r =
        let g = a_digit x d in
        passes o c x xs (λ q. omega (arith, g), λ q. omega (arith, g), λ q. omega (arith, g)) ∙ r n (omega arith)
    by false d zero f r = refl
    by false d (suc n) f r = absurd (omega arith)

module _ (s : List ℕ) (k : ℕ) where
  digits_level : (at : ℕ) → Level s false k at → Level s false k (at + (numeral_at s at).count)
  digits_level at l =
      record {
        opened = l.opened;
        closed = l.closed;
        apart = l.apart;
        counts = l.counts ∙ digits_pass l.opened l.closed 0 0 (numeral_at s at).count (drop at s) (omega arith)
            ∙ ap (deep_from l.opened l.closed false) (drop-drop (numeral_at s at).count at s);
      }

  skip_level : (at : ℕ) → Level s false k at → Level s false k (skipped s at)
  skip_level at l = stretch_level s k Space space_plain at l

  -- one byte that is neither a quote nor a parenthesis, and is not 0
  byte_level : (at c : ℕ) → eqb (get_or s at 0) c ≡ true → leb 1 c ≡ true → Plain c → Level s false k at → Level s false k (at + 1)
  byte_level at c e h p l = past_plain s k at (stands_at s at c e h) (subst Plain (sym (eqb-true _ _ e)) p) l

-- a text in quotes: from an offset inside to the quote that ends it
no_quote : (b : ℕ) → belongs Unquoted b ≡ true → b ≡ code "\"" → ⊥
unfolding belongs
no_quote b e = of_no_other Unquoted b (code "\"") refl e

is_quote : (b : ℕ) → belongs Unquoted b ≡ false → b ≡ code "\""
unfolding belongs
is_quote b e = eqb-true _ _ (not-false _ e)

module _ (s : List ℕ) where
  quote_ends : (n at : ℕ) → n ≡ length s - at → stretch_end_in n Unquoted s at < length s → get_or s (stretch_end_in n Unquoted s at) 0 ≡ code "\""
  unfolding stretch_end_in
  quote_ends zero at e h = absurd (omega arith)
  quote_ends (suc n) at e h = picked (λ x. x < length s → get_or s x 0 ≡ code "\"") (belongs Unquoted (get_or s at 0)) _ _
      (λ b. quote_ends n (at + 1) (omega arith)) (λ b i. is_quote (get_or s at 0) b) h

  quoted_stretch : (k n at : ℕ) → n ≤ length s - at → Level s true k at → Level s true k (stretch_end_in n Unquoted s at)
  unfolding stretch_end_in
  quoted_stretch k zero at h l = l
  quoted_stretch k (suc n) at h l = picked (Level s true k) (belongs Unquoted (get_or s at 0)) _ _
      (λ e. quoted_stretch k n (at + 1) (omega arith) (within_quotes s k at (omega arith) (no_quote (get_or s at 0) e) l)) (λ e. l)

  text_level : (k from : ℕ) → Level s true k from → stretch_end Unquoted s from < length s → Level s false k (stretch_end Unquoted s from + 1)
  unfolding stretch_end
  text_level k from l h = out_of_quotes s k (stretch_end_in (length s - from) Unquoted s from) h (quote_ends (length s - from) from refl h)
      (quoted_stretch k (length s - from) from (omega arith) l)

-- the symbols
module _ (s : List ℕ) (k : ℕ) where
  abbrev pub LevelMark : Option ℕ → Type 0
  LevelMark None = Unit {0}
  LevelMark (Some n) = Level s false k n

  abbrev pub LevelJoint : Option Joint → Type 0
  LevelJoint None = Unit {0}
  LevelJoint (Some j) = Level s false k j.end

  abbrev pub LevelMultiplier : the.Multiplied → Type 0
  LevelMultiplier (Ok None) = Unit {0}
  LevelMultiplier (Err x) = Unit {0}
  LevelMultiplier (Ok (Some m)) = Level s false k m.end

  abbrev pub LevelHeld : Option Held → Type 0
  LevelHeld (Some (H.Text a b n)) = Level s false k n
  LevelHeld (Some (H.Field i p n)) = Level s false k n
  LevelHeld None = Unit {0}
  LevelHeld (Some H.Sum) = Unit {0}

  -- after an opening parenthesis one more is open, which is within the bound
  abbrev Opened : ℕ → Type 0
  Opened n = (k + 1 ≤ max_depth) × Level s false (k + 1) n

  abbrev pub LevelStart : Option Start → Type 0
  LevelStart None = Unit {0}
  LevelStart (Some (S.Open n)) = Opened n
  LevelStart (Some (S.Make j p n)) = Opened n

  pub closing_level : (at : ℕ) → Level s false (k + 1) at → LevelMark (the.closing_at s at)
  unfolding the.mark_at
  closing_level at l = picked LevelMark (eqb (get_or s (skipped s at) 0) (code ")")) _ _
      (λ e. past_closing s k (skipped s at) (stands_at s (skipped s at) (code ")") e refl) (eqb-true _ _ e) (skip_level s (k + 1) at l)) (λ e. tt)

  module _ (at : ℕ) (l : Level s false k at) where
    word_level : Level s false k (stretch_end Letter s (skipped s at))
    word_level = stretch_level s k Letter letter_plain (skipped s at) (skip_level s k at l)

    operator_level : (w : List ℕ) (o : Op) → LevelJoint (the.operator_at s at w o)
    unfolding the.operator_at
    operator_level w o = picked LevelJoint (same (word_at s (skipped s at)) w) _ _ (λ e. word_level) (λ e. tt)

    pub or_level : LevelJoint (the.or_at s at)
    or_level = operator_level _ _

    pub and_level : LevelJoint (the.and_at s at)
    and_level = operator_level _ _

    abbrev LevelWord : Option Op → Type 0
    LevelWord o = LevelJoint (the.word_joint o (skipped s at) (stretch_end Letter s (skipped s at)))

    pub comparison_level : LevelJoint (the.comparison_at s at)
    unfolding the.comparison_at the.comparing
    comparison_level =
        picked LevelWord (same (word_at s (skipped s at)) (bytes "eq")) _ _ (λ e. word_level) (λ f.
        picked LevelWord (same (word_at s (skipped s at)) (bytes "ne")) _ _ (λ e. word_level) (λ f.
        picked LevelWord (same (word_at s (skipped s at)) (bytes "lt")) _ _ (λ e. word_level) (λ f.
        picked LevelWord (same (word_at s (skipped s at)) (bytes "le")) _ _ (λ e. word_level) (λ f.
        picked LevelWord (same (word_at s (skipped s at)) (bytes "gt")) _ _ (λ e. word_level) (λ f.
        picked LevelWord (same (word_at s (skipped s at)) (bytes "ge")) _ _ (λ e. word_level) (λ f. tt))))))

    pub sign_level : LevelJoint (the.sign_at s at)
    unfolding the.sign_at
    sign_level = picked LevelJoint (eqb (get_or s (skipped s at) 0) (code "+")) _ _
        (λ e. byte_level s k (skipped s at) (code "+") e refl (λ q. omega arith, λ q. omega arith, λ q. omega arith) (skip_level s k at l))
        (λ f. picked LevelJoint (eqb (get_or s (skipped s at) 0) (code "-")) _ _
        (λ e. byte_level s k (skipped s at) (code "-") e refl (λ q. omega arith, λ q. omega arith, λ q. omega arith) (skip_level s k at l)) (λ e. tt))

    abbrev LevelWhole : Result Multiplier NoNumber → Type 0
    LevelWhole r = LevelMultiplier (the.after_star r)

    whole_level : (b : Bool) (p d : ℕ) → Level s false k d → LevelWhole (the.whole_of b p d (numeral_at s d))
    unfolding the.whole_of
    whole_level b p d m = picked LevelWhole (leb 1 (numeral_at s d).count) _ _
        (λ e. picked LevelWhole (leb (numeral_at s d).count 6) _ _ (λ f. digits_level s k d m) (λ f. tt)) (λ e. tt)

    from_level : (p : ℕ) → Level s false k p → LevelWhole (the.whole_from s p)
    unfolding the.whole_from
    from_level p m = picked LevelWhole (eqb (get_or s p 0) (code "-")) _ _
        (λ e. whole_level true p (p + 1) (byte_level s k p (code "-") e refl (λ q. omega arith, λ q. omega arith, λ q. omega arith) m)) (λ e. whole_level false p p m)

    pub multiplier_level : LevelMultiplier (the.multiplier_at s at)
    unfolding the.multiplier_at
    multiplier_level = picked LevelMultiplier (eqb (get_or s (skipped s at) 0) (code "*")) _ _
        (λ e. from_level (skipped s (skipped s at + 1)) (skip_level s k (skipped s at + 1)
        (byte_level s k (skipped s at) (code "*") e refl (λ q. omega arith, λ q. omega arith, λ q. omega arith) (skip_level s k at l)))) (λ e. tt)

    field_level : (p : ℕ) → Level s false k (p + 1) → LevelHeld (the.field_from s p)
    unfolding the.field_from the.field_of
    field_level p m = picked LevelHeld (eqb (get_or s (p + 1) 0) (code "0")) _ _ (λ e. tt)
        (λ e. picked LevelHeld (leb 1 (numeral_at s (p + 1)).value) _ _
        (λ f. picked LevelHeld (leb (numeral_at s (p + 1)).value 16) _ _ (λ g. digits_level s k (p + 1) m) (λ g. tt)) (λ f. tt))

    quoted_level : (from : ℕ) → Level s true k from → LevelHeld (the.text_from s from)
    unfolding the.text_from
    quoted_level from m = picked LevelHeld (ltb (stretch_end Unquoted s from) (length s)) _ _ (λ e. text_level s k from m (ltb-true _ _ e)) (λ e. tt)

    pub held_level : LevelHeld (the.held_at s at)
    unfolding the.held_at
    held_level = picked LevelHeld (eqb (get_or s (skipped s at) 0) (code "\"")) _ _
        (λ e. quoted_level (skipped s at + 1) (into_quotes s k (skipped s at) (stands_at s (skipped s at) (code "\"") e refl) (eqb-true _ _ e) (skip_level s k at l)))
        (λ e. picked LevelHeld (eqb (get_or s (skipped s at) 0) (code "$")) _ _
        (λ f. field_level (skipped s at) (byte_level s k (skipped s at) (code "$") f refl (λ q. omega arith, λ q. omega arith, λ q. omega arith) (skip_level s k at l))) (λ f. tt))

    module _ (d : deep s ≡ false) where
      opens : (p : ℕ) → Level s false k p → eqb (get_or s p 0) (code "(") ≡ true → Opened (p + 1)
      opens p m e = past_opening s k p (stands_at s p (code "(") e refl) d (eqb-true _ _ e) m

      makes_level : (p : ℕ) → Level s false k p → (n : Option Kind) → LevelStart (the.makes s p n)
      unfolding the.mark_at
      makes_level p m None = tt
      makes_level p m (Some j) = by (eqb (get_or s (skipped s (stretch_end Letter s p)) 0) (code "(")) refl
        where
          by : (b : Bool) → eqb (get_or s (skipped s (stretch_end Letter s p)) 0) (code "(") ≡ b → LevelStart (the.kind_start j p (pick b (Some (skipped s (stretch_end Letter s p) + 1)) None))
          by true e = opens (skipped s (stretch_end Letter s p)) (skip_level s k (stretch_end Letter s p) (stretch_level s k Letter letter_plain p m)) e
          by false e = tt

      pub start_level : LevelStart (the.start_at s at)
      unfolding the.start_at
      start_level = picked LevelStart (eqb (get_or s (skipped s at) 0) (code "(")) _ _
          (λ e. opens (skipped s at) (skip_level s k at l) e) (λ f. makes_level (skipped s at) (skip_level s k at l) (the.named (word_at s (skipped s at))))

-- nothing is open where a text begins
pub level_0 : (s : List ℕ) → Level s false 0 0
unfolding deep
level_0 s = record { opened = 0; closed = 0; apart = refl; counts = refl }
