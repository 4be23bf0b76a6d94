-- The same bytes at another place, in another text: a symbol that stands there in the one stands there in the other.
use mathlib.Core.Path.{◌≡◌, sym, subst, ◌∙◌}
use mathlib.Core.Bool.{Bool}
use mathlib.Core.List.{List}
use Prim.Native.Nat.{ℕ, ◌+◌, ◌-◌, ◌*◌, ◌<◌, ◌≤◌}
use Prim.Native.Char.{Char, code}
use Prim.Native.String.{String}
use native.Mathlib.Omega.{arith}
use lib.ListN.{length, drop, length-drop}
use lib.Seq.{length-take-le, get_or-take, get_or-drop, ext_get_or}
use Rattle.numerals.specs.Reading.{at}
use Rattle.condition_words.specs.Words.{between}
use Rattle.condition_symbols.specs.declared.Op.{Op}
use Rattle.condition_grammar.specs.Productions.{Longest, OneByte, Word, Digit, Digits, no_digit, digit, Numeral, Field, numbered, Quoted, quoted, Whole, unsigned, signed, Sign, plus, minus, Comparison, eq, ne, lt, le, gt, ge, Phrase}
use Rattle.condition_grammar.proofs.Stretches.{digits_from}
use Rattle.condition_grammar.proofs.Standing.{Operator, or, and, comparison, sign}
use Rattle.condition_blanks.proofs.Spans.{mark_forward}

-- the bytes of s from a up to n, and the one after them, are those of s' from a' up to n'
pub record Carried (s s' : List ℕ) (a n a' n' : ℕ) : Type 0 where
  pub more : ℕ
  pub less : ℕ
  pub begins : a' + less ≡ a + more
  pub ends : n' + less ≡ n + more
  pub within : n ≤ length s
  pub fits : n' ≤ length s'
  pub same : (i i' : ℕ) → a ≤ i → i ≤ n → i' + less ≡ i + more → at s' i' ≡ at s i

pub between_length : (s : List ℕ) (a n : ℕ) → n ≤ length s → length (between s a n) ≡ n - a
between_length s a n h = length-take-le (n - a) (drop a s) (omega (arith, length-drop a s))

pub between_at : (s : List ℕ) (a n i : ℕ) → i < n - a → at (between s a n) i ≡ at s (a + i)
between_at s a n i h = get_or-take (n - a) (drop a s) i 0 h ∙ get_or-drop a s i 0

-- cut in two
pub record Cut (s s' : List ℕ) (a b n a' n' : ℕ) : Type 0 where
  pub mid : ℕ
  pub left : Carried s s' a b a' mid
  pub right : Carried s s' b n mid n'

-- a text in quotes, with the same bytes
pub record CarriedText (s s' : List ℕ) (from to a' n' : ℕ) : Type 0 where
  pub from' : ℕ
  pub to' : ℕ
  pub quotes : Quoted s' from' to' a' n'
  pub bytes : between s' from' to' ≡ between s from to

module _ {s s' : List ℕ} where
  pub cut : {a b n a' n' : ℕ} → Carried s s' a n a' n' → a ≤ b → b ≤ n → Cut s s' a b n a' n'
  cut {a} {b} {n} {a'} {n'} x h k =
      let e : a' + x.less ≡ a + x.more = x.begins in
      let f : n' + x.less ≡ n + x.more = x.ends in
      let g : b + x.more - x.less + x.less ≡ b + x.more = omega arith in
      let u : n ≤ length s = x.within in
      let v : n' ≤ length s' = x.fits in
      record {
        mid = b + x.more - x.less;
        left = record { more = x.more; less = x.less; begins = e; ends = g; within = omega arith; fits = omega arith; same = λ i j p q r. x.same i j p (omega arith) r };
        right = record { more = x.more; less = x.less; begins = g; ends = f; within = u; fits = v; same = λ i j p q r. x.same i j (omega arith) q r };
      }

  module _ {a n a' n' : ℕ} (x : Carried s s' a n a' n') where
    pub first_same : a ≤ n → at s' a' ≡ at s a
    first_same h = x.same a a' (omega arith) h x.begins

    pub last_same : a ≤ n → at s' n' ≡ at s n
    last_same h = x.same n n' h (omega arith) x.ends

    -- what holds of every byte
    pub carry_all : (Such : ℕ → Type 0) → a ≤ n → ((i : ℕ) → a ≤ i → i < n → Such (at s i)) → (j : ℕ) → a' ≤ j → j < n' → Such (at s' j)
    carry_all Such h all j k l =
        let e : a' + x.less ≡ a + x.more = x.begins in
        let f : n' + x.less ≡ n + x.more = x.ends in
        let i = j + x.less - x.more in
        let p : a ≤ i = omega arith in
        let q : i < n = omega arith in
        subst Such (sym (x.same i j p (omega arith) (omega arith))) (all i p q)

    pub carry_between : a ≤ n → between s' a' n' ≡ between s a n
    carry_between h =
        let e : a' + x.less ≡ a + x.more = x.begins in
        let f : n' + x.less ≡ n + x.more = x.ends in
        let u : length (between s' a' n') ≡ n' - a' = between_length s' a' n' x.fits in
        let v : length (between s a n) ≡ n - a = between_length s a n x.within in
        ext_get_or 0 (between s' a' n') (between s a n) (omega arith)
        (λ i k. let p : i < n' - a' = omega arith in let q : i < n - a = omega arith in
        between_at s' a' n' i p ∙ x.same (a + i) (a' + i) (omega arith) (omega arith) (omega arith) ∙ sym (between_at s a n i q))

    pub carry_longest : {Such : ℕ → Type 0} → Longest Such s a n → Longest Such s' a' n'
    carry_longest {Such} l =
        let h : a ≤ n = l.forward in
        record {
          forward = omega (arith, x.begins, x.ends);
          within = x.fits;
          all = carry_all Such h l.all;
          ends = λ y. l.ends (subst Such (last_same h) y);
        }

  carry_digits : {a n v : ℕ} → Digits s a n v → (a' n' : ℕ) → Carried s s' a n a' n' → Digits s' a' n' v
  carry_digits {a = a} no_digit a' n' x =
      let e : a' ≡ n' = omega (arith, x.begins, x.ends) in
      subst (λ i. Digits s' a' i 0) e no_digit
  carry_digits {a = a} (digit {to = to} {v = v} d e) a' n' x =
      let h : a ≤ to = digits_from s d in
      let y = cut x h (omega arith) in
      let q : y.mid + 1 ≡ n' = omega (arith, y.right.begins, y.right.ends) in
      let b : at s' y.mid ≡ at s to = first_same y.right (omega arith) in
      subst (λ i. Digits s' a' i (v * 10 + (at s to - code "0"))) q
      (subst (λ c. Digits s' a' (y.mid + 1) (v * 10 + (c - code "0"))) b (digit (carry_digits d a' y.mid y.left) (subst Digit (sym b) e)))

  carry_numeral : {v a n a' n' : ℕ} → Numeral s v a n → Carried s s' a n a' n' → Numeral s' v a' n'
  carry_numeral l x =
      record { digits = carry_digits l.digits _ _ x; ends = λ y. l.ends (subst Digit (last_same x (digits_from s l.digits)) y) }

  pub carry_mark : {w : Char} {a p n a' n' : ℕ} → OneByte s w a p n → Carried s s' a n a' n' → (q : ℕ) × OneByte s' w a' q n'
  carry_mark {p = p} {n = n} m x =
      let e : n ≡ p + 1 = m.next in
      let h : p ≤ n = omega arith in
      let y = cut x m.spaces.forward h in
      (y.mid, record { spaces = carry_longest y.left m.spaces; stands = first_same y.right h ∙ m.stands; next = omega (arith, y.right.begins, y.right.ends) })

  pub carry_word : {w : String} {a p n a' n' : ℕ} → Word s w a p n → Carried s s' a n a' n' → (q : ℕ) × Word s' w a' q n'
  carry_word m x =
      let h = m.longest.forward in
      let y = cut x m.spaces.forward h in
      (y.mid, record { spaces = carry_longest y.left m.spaces; longest = carry_longest y.right m.longest; letters = carry_between y.right h ∙ m.letters })

  pub carry_field : {i a p n a' n' : ℕ} → Field s i a p n → Carried s s' a n a' n' → (q : ℕ) × Field s' i a' q n'
  carry_field (numbered {a = a} {m = m} d l z h k) x =
      let u : a < m = mark_forward d in
      let v = digits_from s l.digits in
      let y = cut x (omega arith) v in
      let c = carry_mark d y.left in
      (c.0, numbered c.1 (carry_numeral l y.right) (λ e. z (sym (first_same y.right v) ∙ e)) h k)

  pub carry_whole : {v : ℕ} {b : Bool} {a p n a' n' : ℕ} → Whole s v b a p n → Carried s s' a n a' n' → (q : ℕ) × Whole s' v b a' q n'
  carry_whole (unsigned g l h k) x =
      let y = cut x g.forward (omega arith) in
      (y.mid, unsigned (carry_longest y.left g) (carry_numeral l y.right) (omega (arith, y.right.begins, y.right.ends)) (omega (arith, y.right.begins, y.right.ends)))
  carry_whole (signed {a = a} {m = m} d l h k) x =
      let u : a < m = mark_forward d in
      let y = cut {b = m} x (omega arith) (omega arith) in
      let c = carry_mark d y.left in
      (c.0, signed c.1 (carry_numeral l y.right) (omega (arith, y.right.begins, y.right.ends)) (omega (arith, y.right.begins, y.right.ends)))

  carry_sign : {o : Op} {a p n a' n' : ℕ} → Sign s o a p n → Carried s s' a n a' n' → (q : ℕ) × Sign s' o a' q n'
  carry_sign (plus m) x = let c = carry_mark m x in (c.0, plus c.1)
  carry_sign (minus m) x = let c = carry_mark m x in (c.0, minus c.1)

  carry_comparison : {o : Op} {a p n a' n' : ℕ} → Comparison s o a p n → Carried s s' a n a' n' → (q : ℕ) × Comparison s' o a' q n'
  carry_comparison (eq w) x = let c = carry_word w x in (c.0, eq c.1)
  carry_comparison (ne w) x = let c = carry_word w x in (c.0, ne c.1)
  carry_comparison (lt w) x = let c = carry_word w x in (c.0, lt c.1)
  carry_comparison (le w) x = let c = carry_word w x in (c.0, le c.1)
  carry_comparison (gt w) x = let c = carry_word w x in (c.0, gt c.1)
  carry_comparison (ge w) x = let c = carry_word w x in (c.0, ge c.1)

  pub carry_operator : {P : Phrase} {o : Op} {a p n a' n' : ℕ} → Operator s P o a p n → Carried s s' a n a' n' → (q : ℕ) × Operator s' P o a' q n'
  carry_operator (or w) x = let c = carry_word w x in (c.0, or c.1)
  carry_operator (and w) x = let c = carry_word w x in (c.0, and c.1)
  carry_operator (comparison e) x = let c = carry_comparison e x in (c.0, comparison c.1)
  carry_operator (sign e) x = let c = carry_sign e x in (c.0, sign c.1)

  pub carry_text : {from to a n a' n' : ℕ} → Quoted s from to a n → Carried s s' a n a' n' → CarriedText s s' from to a' n'
  carry_text {n = n} {n' = n'} (quoted {a = a} {from = from} {to = to} m f i e g) x =
      let u : a < from = mark_forward m in
      let y = cut {b = from} x (omega arith) (omega arith) in
      let z = cut y.right f (omega arith) in
      let k : to ≤ n = omega arith in
      let c = carry_mark m y.left in
      record {
        from' = y.mid;
        to' = z.mid;
        quotes = quoted {from = y.mid} {to = z.mid} {n = n'} c.1 (omega (arith, z.left.begins, z.left.ends)) (carry_all z.left (λ b. b ≡ code "\"" → ⊥) f i) (first_same z.right k ∙ e) (omega (arith, z.right.begins, z.right.ends));
        bytes = carry_between z.left f;
      }
