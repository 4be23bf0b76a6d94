-- The symbols: what stands from an offset on is what the definitions of crate condition_symbols find there.
use mathlib.Core.Path.{◌≡◌, refl, ap}
use mathlib.Core.Bool.{Bool, true, false}
use mathlib.Core.List.{List}
use Prim.Native.Nat.{ℕ, ◌+◌, ◌-◌, ◌<◌, ◌≤◌}
use Prim.Native.Char.{Char, code}
use Prim.Native.String.{String}
use native.Mathlib.Omega.{arith}
use lib.Dec.{leb, eqb}
use lib.ListN.{length, get_or}
use borrow.Author.Tests.{eq-eqb, ne_eqb, le-leb, lt-ltb}
use Rattle.std.specs.Prelude.{Option, Some, None, Ok}
use Rattle.basis.specs.Choice.{both}
use Rattle.basis.specs.Letters.{bytes}
use Rattle.numerals.specs.Reading.{numeral_at, at}
use Rattle.numerals.proofs.Positions.{within}
use Rattle.value.specs.declared.Kind.{Kind}
use Rattle.value.specs.declared.Kind.TheVariants as K
use Rattle.condition_words.specs.Words.{skipped, between, same}
use Rattle.condition_words.specs.declared.Class.TheVariants as C
use Rattle.condition_symbols.specs.Symbols as the
use Rattle.condition_symbols.specs.declared.Op.{Op}
use Rattle.condition_symbols.specs.declared.Op.TheVariants as O
use Rattle.condition_symbols.specs.declared.Joint.{Joint}
use Rattle.condition_symbols.specs.declared.Start.TheVariants as S
use Rattle.condition_symbols.specs.declared.Held.TheVariants as H
use Rattle.condition_grammar.specs.Productions.{Longest, Spaces, OneByte, Word, Digit, Numeral, Field, numbered, Quoted, quoted, Whole, unsigned, signed, Sign, plus, minus, Comparison, eq, ne, lt, le, gt, ge, name_of, Phrase, Condition, Clause, Test, Sum, Term, Factor, Argument}
use Rattle.condition_grammar.proofs.Stretches.{longest_is, spaces_end, letters_end, first_of, digits_from, digits_first, numeral_stretch}

-- the operators that join the parts of a part
pub data Operator (s : List ℕ) : Phrase → Op → ℕ → ℕ → ℕ → Type 0 where
  or : {a p n : ℕ} → Word s "or" a p n → Operator s Condition O.Or a p n
  and : {a p n : ℕ} → Word s "and" a p n → Operator s Clause O.And a p n
  comparison : {o : Op} {a p n : ℕ} → Comparison s o a p n → Operator s Test o a p n
  sign : {o : Op} {a p n : ℕ} → Sign s o a p n → Operator s Sum o a p n

-- where they are looked for
abbrev pub joint : Phrase → List ℕ → ℕ → Option Joint
joint Condition s a = the.or_at s a
joint Clause s a = the.and_at s a
joint Test s a = the.comparison_at s a
joint Sum s a = the.sign_at s a
joint Term s a = None
joint Factor s a = None
joint (Argument k w) s a = None

-- `*` and a whole number
pub record Times (s : List ℕ) (negative : Bool) (v a p n : ℕ) : Type 0 where
  pub q : ℕ
  pub c : ℕ
  pub star : OneByte s "*" a q c
  pub whole : Whole s v negative c p n

-- a kind's name and an opening parenthesis
pub record Naming (s : List ℕ) (k : Kind) (a p n : ℕ) : Type 0 where
  pub m : ℕ
  pub q : ℕ
  pub name : Word s (name_of k) a p m
  pub opening : OneByte s "(" m q n

digit_no_minus : (b : ℕ) → Digit b → eqb b (code "-") ≡ false
digit_no_minus b x = let h : code "0" ≤ b = x.from in ne_eqb b (code "-") (λ q. omega arith)

named_is : (k : Kind) → the.named (bytes (name_of k)) ≡ Some k
unfolding the.named same both
named_is K.Date = refl
named_is K.Time = refl
named_is K.DateTime = refl
named_is K.DayTimeDuration = refl
named_is K.YearMonthDuration = refl

-- every kind's name begins with x
pub name_first : (s : List ℕ) (k : Kind) (p n : ℕ) → between s p n ≡ bytes (name_of k) → get_or s p 0 ≡ code "x"
name_first s K.Date p n e = first_of s p n _ _ e
name_first s K.Time p n e = first_of s p n _ _ e
name_first s K.DateTime p n e = first_of s p n _ _ e
name_first s K.DayTimeDuration p n e = first_of s p n _ _ e
name_first s K.YearMonthDuration p n e = first_of s p n _ _ e

-- what stands is found
module _ {s : List ℕ} where
  word_found : {w : String} {a p n : ℕ} (o : Op) → same (bytes w) (bytes w) ≡ true → Word s w a p n → the.operator_at s a (bytes w) o ≡ Some (the.joint_of o p n)
  unfolding the.operator_at
  word_found o e x = rw (spaces_end x.spaces, letters_end x.longest, x.letters, e)

  comparison_found : {w : String} {a p n : ℕ} → Word s w a p n → the.comparison_at s a ≡ the.word_joint (the.comparing (bytes w)) p n
  unfolding the.comparison_at
  comparison_found x = rw (spaces_end x.spaces, letters_end x.longest, x.letters)

  pub operator_found : {k : Phrase} {o : Op} {a p n : ℕ} → Operator s k o a p n → joint k s a ≡ Some (the.joint_of o p n)
  unfolding the.comparing the.sign_at same both
  operator_found (or w) = word_found O.Or refl w
  operator_found (and w) = word_found O.And refl w
  operator_found (comparison (eq w)) = comparison_found w
  operator_found (comparison (ne w)) = comparison_found w
  operator_found (comparison (lt w)) = comparison_found w
  operator_found (comparison (le w)) = comparison_found w
  operator_found (comparison (gt w)) = comparison_found w
  operator_found (comparison (ge w)) = comparison_found w
  operator_found (sign (plus m)) = rw (spaces_end m.spaces, m.stands, m.next)
  operator_found (sign (minus m)) = rw (spaces_end m.spaces, m.stands, m.next)

  digits_found : {v p n : ℕ} (b : Bool) (q : ℕ) → Numeral s v p n → p < n → n ≤ p + 6 → the.whole_of b q p (numeral_at s p) ≡ Ok (the.multiplier_of b v q n)
  unfolding the.whole_of
  digits_found {v} {p} {n} b q x h k =
      let i : 1 ≤ n - p = omega arith in
      let j : n - p ≤ 6 = omega arith in
      let e : p + (n - p) ≡ n = omega arith in
      rw (numeral_stretch s x, le-leb _ _ i, le-leb _ _ j, e)

  whole_found : {b : Bool} {v p n : ℕ} (c : ℕ) → Whole s v b c p n → the.whole_from s (skipped s c) ≡ Ok (the.multiplier_of b v p n)
  unfolding the.whole_from
  whole_found c (unsigned {p = p} g x h k) = rw (spaces_end g, digit_no_minus (at s p) (digits_first s x.digits h)) (digits_found false p x h k)
  whole_found {v = v} {p = p} {n = n} c (signed m x h k) = rw (spaces_end m.spaces, m.stands, ← m.next) (digits_found true p x h k)

  pub times_found : {b : Bool} {v a p n : ℕ} → Times s b v a p n → the.multiplier_at s a ≡ Ok (Some (the.multiplier_of b v p n))
  unfolding the.multiplier_at
  times_found x = rw (spaces_end x.star.spaces, x.star.stands, ← x.star.next) (ap the.after_star (whole_found x.c x.whole))

  mark_found : {w : Char} {a p n : ℕ} → OneByte s w a p n → the.mark_at s a (code w) ≡ Some n
  unfolding the.mark_at
  mark_found m = rw (spaces_end m.spaces, eq-eqb _ _ m.stands, m.next)

  pub closing_found : {a p n : ℕ} → OneByte s ")" a p n → the.closing_at s a ≡ Some n
  closing_found m = mark_found m

  pub opening_found : {a p n : ℕ} → OneByte s "(" a p n → the.start_at s a ≡ Some (S.Open n)
  unfolding the.start_at
  opening_found m = rw (spaces_end m.spaces, m.stands, m.next)

  made_found : {m q n : ℕ} (k : Kind) (p : ℕ) → OneByte s "(" m q n → the.kind_start k p (the.opening_at s m) ≡ Some (S.Make k p n)
  made_found k p m = rw (mark_found m)

  pub naming_found : {k : Kind} {a p n : ℕ} → Naming s k a p n → the.start_at s a ≡ Some (S.Make k p n)
  unfolding the.start_at
  naming_found {k} {a} {p} {n} x =
      let w = x.name in
      rw (spaces_end w.spaces, name_first s k p x.m w.letters, letters_end w.longest, w.letters, named_is k, letters_end w.longest) (made_found k p x.opening)

  pub quoted_found : {a from to n : ℕ} → Quoted s from to a n → the.held_at s a ≡ Some (H.Text from to n)
  unfolding the.held_at the.text_from
  quoted_found {to = to} (quoted m h i e f) =
      let k : to < length s = within s to (code "\"") e (omega arith) in
      let l : Longest (λ b. b ≡ code "\"" → ⊥) s _ to = record { forward = h; within = omega arith; all = i; ends = λ n. n e } in
      rw (spaces_end m.spaces, m.stands, ← m.next, longest_is C.Unquoted s l, lt-ltb _ _ k, f)

  pub field_found : {a i p n : ℕ} → Field s i a p n → the.held_at s a ≡ Some (H.Field i p n)
  unfolding the.held_at the.field_from the.field_of
  field_found {i = i} {p = p} {n = n} (numbered {m = m} d x z h k) =
      let e : p + 1 + (n - (p + 1)) ≡ n = omega (arith, d.next, digits_from s x.digits) in
      rw (spaces_end d.spaces, d.stands, ← d.next, ne_eqb _ _ z, numeral_stretch s x, le-leb _ _ h, le-leb _ _ k, d.next, e)

  pub rest_found : {n : ℕ} → Spaces s n (length s) → leb (length s) (skipped s n) ≡ true
  rest_found r = rw (spaces_end r) (le-leb (length s) (length s) (omega arith))
