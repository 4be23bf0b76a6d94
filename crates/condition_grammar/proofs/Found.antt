-- The symbols, the other way round: what the definitions of crate condition_symbols find at an offset stands from there on.
use mathlib.Core.Path.{◌≡◌, refl, subst, ◌∙◌}
use mathlib.Core.Bool.{Bool, true, false}
use mathlib.Core.List.{List, ◌∷◌}
use Prim.Native.Nat.{ℕ, ◌+◌, ◌<◌, ◌≤◌}
use Prim.Native.Char.{Char, code}
use Prim.Native.String.{String}
use native.Mathlib.Omega.{arith}
use lib.Dec.{leb, ltb, eqb}
use lib.ListN.{length, get_or}
use borrow.Author.Tests.{leb-true, ltb-true, eqb-true, eqb-false}
use Rattle.std.specs.Prelude.{Option, Some, None, Result, Ok, Err}
use Rattle.basis.specs.Letters.{bytes}
use Rattle.numerals.specs.Reading.{numeral_at}
use Rattle.numerals.proofs.Positions.{within}
use Rattle.value.specs.declared.Kind.{Kind}
use Rattle.value.specs.declared.Kind.TheVariants as K
use Rattle.condition_words.specs.Words.{stretch_end, skipped, word_at, same}
use Rattle.condition_words.proofs.Stretching.{stretch_from, stretch_within}
use Rattle.condition_words.specs.declared.Class.TheVariants as C
use Rattle.condition_symbols.specs.Symbols as the
use Rattle.condition_symbols.specs.declared.Op.{Op}
use Rattle.condition_symbols.specs.declared.Joint.{Joint}
use Rattle.condition_symbols.specs.declared.Start.{Start}
use Rattle.condition_symbols.specs.declared.Start.TheVariants as S
use Rattle.condition_symbols.specs.declared.Multiplier.{Multiplier}
use Rattle.condition_symbols.specs.declared.NoNumber.{NoNumber}
use Rattle.condition_symbols.specs.declared.Held.{Held}
use Rattle.condition_symbols.specs.declared.Held.TheVariants as H
use Rattle.condition_grammar.specs.Productions.{Spaces, OneByte, Word, Field, numbered, Quoted, quoted, Whole, unsigned, signed, plus, minus, eq, ne, lt, le, gt, ge, name_of, Phrase, Condition, Clause, Test, Sum, Term, Factor, Argument}
use Rattle.condition_grammar.proofs.Ends.{picked, stands_at}
use Rattle.condition_grammar.proofs.Stretches.{stretch_before, spaces_stand, letters_stand, same_is, first_of, numeral_stands}
use Rattle.condition_grammar.proofs.Standing.{Operator, or, and, comparison, sign, joint, Times, Naming}

module _ (s : List ℕ) where
  pub rest_stands : (n : ℕ) → n ≤ length s → leb (length s) (skipped s n) ≡ true → Spaces s n (length s)
  rest_stands n h e =
      let q : skipped s n ≡ length s = omega (arith, leb-true (length s) (skipped s n) e, stretch_within C.Space s n h) in
      rw q at (spaces_stand s n h)

module _ (s : List ℕ) (a : ℕ) where
  abbrev p : ℕ
  p = skipped s a

  mark_stands : (w : Char) → eqb (get_or s p 0) (code w) ≡ true → leb 1 (code w) ≡ true → OneByte s w a p (p + 1)
  mark_stands w e h =
      let k : p < length s = stands_at s p (code w) e h in
      record { spaces = spaces_stand s a (omega (arith, stretch_from C.Space s a)); stands = eqb-true _ _ e; next = refl }

  word_stands : (w : String) (c : ℕ) (cs : List ℕ) → bytes w ≡ c ∷ cs → same (word_at s p) (bytes w) ≡ true → leb 1 c ≡ true → Word s w a p (stretch_end C.Letter s p)
  word_stands w c cs q e h =
      let f : word_at s p ≡ bytes w = same_is _ _ e in
      let k : p < length s = within s p c (first_of s p _ c cs (f ∙ q)) (leb-true 1 c h) in
      record { spaces = spaces_stand s a (omega (arith, stretch_from C.Space s a)); longest = letters_stand s p (omega arith); letters = f }

module _ (s : List ℕ) (a : ℕ) where
  abbrev JointStands : Phrase → Option Joint → Type 0
  JointStands k None = Unit {0}
  JointStands k (Some j) = Operator s k j.op a j.at j.end

  abbrev word : List ℕ
  word = word_at s (skipped s a)

  abbrev WordStands : Option Op → Type 0
  WordStands o = JointStands Test (the.word_joint o (skipped s a) (stretch_end C.Letter s (skipped s a)))

  joint_stands : (k : Phrase) → JointStands k (joint k s a)
  unfolding the.operator_at the.comparison_at the.comparing the.sign_at
  joint_stands Condition = picked (JointStands Condition) (same word (bytes "or")) _ _ (λ e. or (word_stands s a "or" _ _ refl e refl)) (λ e. tt)
  joint_stands Clause = picked (JointStands Clause) (same word (bytes "and")) _ _ (λ e. and (word_stands s a "and" _ _ refl e refl)) (λ e. tt)
  joint_stands Test =
      picked WordStands (same word (bytes "eq")) _ _ (λ e. comparison (eq (word_stands s a "eq" _ _ refl e refl))) (λ f.
      picked WordStands (same word (bytes "ne")) _ _ (λ e. comparison (ne (word_stands s a "ne" _ _ refl e refl))) (λ f.
      picked WordStands (same word (bytes "lt")) _ _ (λ e. comparison (lt (word_stands s a "lt" _ _ refl e refl))) (λ f.
      picked WordStands (same word (bytes "le")) _ _ (λ e. comparison (le (word_stands s a "le" _ _ refl e refl))) (λ f.
      picked WordStands (same word (bytes "gt")) _ _ (λ e. comparison (gt (word_stands s a "gt" _ _ refl e refl))) (λ f.
      picked WordStands (same word (bytes "ge")) _ _ (λ e. comparison (ge (word_stands s a "ge" _ _ refl e refl))) (λ f. tt))))))
  joint_stands Sum = picked (JointStands Sum) (eqb (get_or s (skipped s a) 0) (code "+")) _ _ (λ e. sign (plus (mark_stands s a "+" e refl)))
      (λ f. picked (JointStands Sum) (eqb (get_or s (skipped s a) 0) (code "-")) _ _ (λ e. sign (minus (mark_stands s a "-" e refl))) (λ e. tt))
  joint_stands Term = tt
  joint_stands Factor = tt
  joint_stands (Argument k w) = tt

  pub operator_stands : {o : Op} {p n : ℕ} (k : Phrase) → joint k s a ≡ Some (the.joint_of o p n) → Operator s k o a p n
  operator_stands k e = subst (JointStands k) e (joint_stands k)

  -- a closing parenthesis
  pub record Closing (n : ℕ) : Type 0 where
    pub q : ℕ
    pub mark : OneByte s ")" a q n

  abbrev ClosingStands : Option ℕ → Type 0
  ClosingStands None = Unit {0}
  ClosingStands (Some n) = Closing n

  pub closing_stands : {n : ℕ} → the.closing_at s a ≡ Some n → Closing n
  unfolding the.mark_at
  closing_stands e = subst ClosingStands e (picked ClosingStands (eqb (get_or s (skipped s a) 0) (code ")")) _ _
      (λ f. record { q = skipped s a; mark = mark_stands s a ")" f refl }) (λ f. tt))

  abbrev TimesStand : the.Multiplied → Type 0
  TimesStand (Ok None) = Unit {0}
  TimesStand (Err x) = Unit {0}
  TimesStand (Ok (Some m)) = Times s m.negative m.number a m.at m.end

  module _ (e : eqb (get_or s (skipped s a) 0) (code "*") ≡ true) where
    abbrev w : ℕ
    w = skipped s (skipped s a + 1)

    star_within : skipped s a < length s
    star_within = stands_at s (skipped s a) (code "*") e refl

    times_by : {b : Bool} {v p n : ℕ} → Whole s v b (skipped s a + 1) p n → Times s b v a p n
    times_by x = record { q = skipped s a; c = skipped s a + 1; star = mark_stands s a "*" e refl; whole = x }

    abbrev WholeStands : Result Multiplier NoNumber → Type 0
    WholeStands r = TimesStand (the.after_star r)

    whole_stands : WholeStands (the.whole_from s w)
    unfolding the.whole_from the.whole_of
    whole_stands =
        let k : skipped s a < length s = star_within in
        picked WholeStands (eqb (get_or s w 0) (code "-")) _ _
        (λ f. picked WholeStands (leb 1 (numeral_at s (w + 1)).count) _ _
        (λ g. picked WholeStands (leb (numeral_at s (w + 1)).count 6) _ _
        (λ h. times_by (signed (mark_stands s (skipped s a + 1) "-" f refl) (numeral_stands s (w + 1))
        (omega (arith, leb-true 1 (numeral_at s (w + 1)).count g)) (omega (arith, leb-true (numeral_at s (w + 1)).count 6 h)))) (λ h. tt)) (λ g. tt))
        (λ f. picked WholeStands (leb 1 (numeral_at s w).count) _ _
        (λ g. picked WholeStands (leb (numeral_at s w).count 6) _ _
        (λ h. times_by (unsigned (spaces_stand s (skipped s a + 1) (omega arith)) (numeral_stands s w)
        (omega (arith, leb-true 1 (numeral_at s w).count g)) (omega (arith, leb-true (numeral_at s w).count 6 h)))) (λ h. tt)) (λ g. tt))

  pub times_stand : {b : Bool} {v p n : ℕ} → the.multiplier_at s a ≡ Ok (Some (the.multiplier_of b v p n)) → Times s b v a p n
  unfolding the.multiplier_at
  times_stand e = subst TimesStand e (picked TimesStand (eqb (get_or s (skipped s a) 0) (code "*")) _ _ (λ f. whole_stands f) (λ f. tt))

  -- an opening parenthesis
  pub record Opening (n : ℕ) : Type 0 where
    pub q : ℕ
    pub mark : OneByte s "(" a q n

  abbrev StartStands : Option Start → Type 0
  StartStands None = Unit {0}
  StartStands (Some (S.Open n)) = Opening n
  StartStands (Some (S.Make k p n)) = Naming s k a p n

  made_stands : (k : Kind) (p m : ℕ) → Word s (name_of k) a p m → StartStands (the.kind_start k p (the.opening_at s m))
  unfolding the.mark_at
  made_stands k p m w = picked (λ x. StartStands (the.kind_start k p x)) (eqb (get_or s (skipped s m) 0) (code "(")) _ _
      (λ e. record { m = m; q = skipped s m; name = w; opening = mark_stands s m "(" e refl }) (λ e. tt)

  abbrev MakesStand : Option Kind → Type 0
  MakesStand n = StartStands (the.makes s (skipped s a) n)

  named_stands : MakesStand (the.named word)
  unfolding the.named
  named_stands =
      picked MakesStand (same word (bytes "xs:date")) _ _ (λ e. made_stands K.Date _ _ (word_stands s a "xs:date" _ _ refl e refl)) (λ f.
      picked MakesStand (same word (bytes "xs:time")) _ _ (λ e. made_stands K.Time _ _ (word_stands s a "xs:time" _ _ refl e refl)) (λ f.
      picked MakesStand (same word (bytes "xs:dateTime")) _ _ (λ e. made_stands K.DateTime _ _ (word_stands s a "xs:dateTime" _ _ refl e refl)) (λ f.
      picked MakesStand (same word (bytes "xs:dayTimeDuration")) _ _ (λ e. made_stands K.DayTimeDuration _ _ (word_stands s a "xs:dayTimeDuration" _ _ refl e refl)) (λ f.
      picked MakesStand (same word (bytes "xs:yearMonthDuration")) _ _ (λ e. made_stands K.YearMonthDuration _ _ (word_stands s a "xs:yearMonthDuration" _ _ refl e refl))
      (λ f. tt)))))

  start_stands : StartStands (the.start_at s a)
  unfolding the.start_at
  start_stands = picked StartStands (eqb (get_or s (skipped s a) 0) (code "(")) _ _ (λ e. record { q = skipped s a; mark = mark_stands s a "(" e refl }) (λ e. named_stands)

  pub opening_stands : {n : ℕ} → the.start_at s a ≡ Some (S.Open n) → Opening n
  opening_stands e = subst StartStands e start_stands

  pub naming_stands : {k : Kind} {p n : ℕ} → the.start_at s a ≡ Some (S.Make k p n) → Naming s k a p n
  naming_stands e = subst StartStands e start_stands

  abbrev HeldStands : Option Held → Type 0
  HeldStands (Some (H.Text from to n)) = Quoted s from to a n
  HeldStands (Some (H.Field i p n)) = Field s i a p n
  HeldStands None = Unit {0}
  HeldStands (Some H.Sum) = Unit {0}

  -- the stretch of bytes that are no quotes ends at a quote
  quote_ends : (from : ℕ) (m : OneByte s "\"" a (skipped s a) from) → from ≤ length s → stretch_end C.Unquoted s from < length s →
      Quoted s from (stretch_end C.Unquoted s from) a (stretch_end C.Unquoted s from + 1)
  quote_ends from m h k =
      let l = stretch_before C.Unquoted s from h k in
      quoted m l.forward l.all (by (eqb (get_or s (stretch_end C.Unquoted s from) 0) (code "\"")) refl) refl
    where
      by : (b : Bool) → eqb (get_or s (stretch_end C.Unquoted s from) 0) (code "\"") ≡ b → get_or s (stretch_end C.Unquoted s from) 0 ≡ code "\""
      by true e = eqb-true _ _ e
      by false e = absurd ((stretch_before C.Unquoted s from h k).ends (eqb-false _ _ e))

  text_stands : eqb (get_or s (skipped s a) 0) (code "\"") ≡ true → HeldStands (the.text_from s (skipped s a + 1))
  unfolding the.text_from
  text_stands e = picked HeldStands (ltb (stretch_end C.Unquoted s (skipped s a + 1)) (length s)) _ _
      (λ f. let k : skipped s a < length s = stands_at s (skipped s a) (code "\"") e refl in
      quote_ends (skipped s a + 1) (mark_stands s a "\"" e refl) (omega arith) (ltb-true _ _ f)) (λ f. tt)

  numeral_field : eqb (get_or s (skipped s a) 0) (code "$") ≡ true → HeldStands (the.field_from s (skipped s a))
  unfolding the.field_from the.field_of
  numeral_field e = picked HeldStands (eqb (get_or s (skipped s a + 1) 0) (code "0")) _ _ (λ f. tt)
      (λ f. picked HeldStands (leb 1 (numeral_at s (skipped s a + 1)).value) _ _
      (λ g. picked HeldStands (leb (numeral_at s (skipped s a + 1)).value 16) _ _
      (λ h. numbered (mark_stands s a "$" e refl) (numeral_stands s (skipped s a + 1)) (eqb-false _ _ f) (leb-true _ _ g) (leb-true _ _ h)) (λ h. tt)) (λ g. tt))

  held_stands : HeldStands (the.held_at s a)
  unfolding the.held_at
  held_stands = picked HeldStands (eqb (get_or s (skipped s a) 0) (code "\"")) _ _ (λ e. text_stands e)
      (λ e. picked HeldStands (eqb (get_or s (skipped s a) 0) (code "$")) _ _ (λ f. numeral_field f) (λ f. tt))

  pub quoted_stands : {from to n : ℕ} → the.held_at s a ≡ Some (H.Text from to n) → Quoted s from to a n
  quoted_stands e = subst HeldStands e held_stands

  pub field_stands : {i p n : ℕ} → the.held_at s a ≡ Some (H.Field i p n) → Field s i a p n
  field_stands e = subst HeldStands e held_stands
