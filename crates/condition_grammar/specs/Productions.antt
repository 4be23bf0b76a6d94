-- Document 01, "Conditions": the grammar, as productions: which tree a text states. This page is what a reader believes of the
-- grammar; how the readers find the tree is in Grammar.antt, and that it is this one in Laws.antt.
-- s is the text, as its bytes; offsets in it count from 0, and a byte past its end counts as 0. Of what stands in it, a is the
-- offset from which on it stands, after any number of spaces; p is the offset of its first byte, and n the offset after its last.
-- A line `name : {..} → A → B → C` reads: for any offsets, numbers and trees in the braces, where A and B hold, so does C; and nothing
-- holds but by such lines. `X → ⊥` reads: X does not hold. A record holds where each of its lines does; `code "x"` is the byte of x.
use Rattle.std.specs.Prelude.{◌≡◌, Bool, true, false, List, ℕ, ◌+◌, ◌-◌, ◌*◌, ◌<◌, ◌≤◌, length}
use Prim.Native.Char.{Char, code}
use Prim.Native.String.{String}
use Rattle.basis.specs.Letters.{bytes}
use Rattle.numerals.specs.Reading.{at}
use Rattle.condition_words.specs.Words.{between}
use Rattle.value.specs.declared.Kind.{Kind}
use Rattle.value.specs.declared.Kind.TheVariants as K
use Rattle.condition_symbols.specs.declared.Op.{Op}
use Rattle.condition_symbols.specs.declared.Op.TheVariants as O
use Rattle.condition_grammar.specs.Trees.{Tree, leaf, one, two, literal, field, cast, times}

-- a longest stretch: every byte from an offset up to another is such a byte, and the one after them is not
pub record Longest (Such : ℕ → Type 0) (s : List ℕ) (from to : ℕ) : Type 0 where
  pub forward : from ≤ to
  pub within : to ≤ length s
  pub all : (i : ℕ) → from ≤ i → i < to → Such (at s i)
  pub ends : Such (at s to) → ⊥

-- "Any number of spaces (byte 32) may stand around symbols": before each symbol, and at the end of the text
abbrev pub Space : ℕ → Type 0
Space b = b ≡ code " "

abbrev pub Spaces : List ℕ → ℕ → ℕ → Type 0
Spaces s a p = Longest Space s a p

-- a symbol of one byte
pub record OneByte (s : List ℕ) (w : Char) (a p n : ℕ) : Type 0 where
  pub spaces : Spaces s a p
  pub stands : at s p ≡ code w
  pub next : n ≡ p + 1

-- "A word is a longest run of ASCII letters and colons"
pub data Letter (b : ℕ) : Type 0 where
  small : code "a" ≤ b → b ≤ code "z" → Letter b
  capital : code "A" ≤ b → b ≤ code "Z" → Letter b
  colon : b ≡ code ":" → Letter b

pub record Word (s : List ℕ) (w : String) (a p n : ℕ) : Type 0 where
  pub spaces : Spaces s a p
  pub longest : Longest Letter s p n
  pub letters : between s p n ≡ bytes w

-- "a numeral a longest run of digits": from an offset up to another, and v is its number
pub record Digit (b : ℕ) : Type 0 where
  pub from : code "0" ≤ b
  pub to : b ≤ code "9"

pub data Digits (s : List ℕ) (from : ℕ) : ℕ → ℕ → Type 0 where
  no_digit : Digits s from from 0
  digit : {to v : ℕ} → Digits s from to v → Digit (at s to) → Digits s from (to + 1) (v * 10 + (at s to - code "0"))

pub record Numeral (s : List ℕ) (v from to : ℕ) : Type 0 where
  pub digits : Digits s from to v
  pub ends : Digit (at s to) → ⊥

-- "`$n` is one symbol without leading zeros", "a field `$1` to `$16`": the field i
pub data Field (s : List ℕ) (i : ℕ) : ℕ → ℕ → ℕ → Type 0 where
  numbered : {a p m n : ℕ} → OneByte s "$" a p m → Numeral s i m n → (at s m ≡ code "0" → ⊥) → 1 ≤ i → i ≤ 16 → Field s i a p n

-- "a text in double quotes (no quote inside)": the bytes from an offset up to another are what stands in the quotes
pub data Quoted (s : List ℕ) : ℕ → ℕ → ℕ → ℕ → Type 0 where
  quoted : {a p from to n : ℕ} → OneByte s "\"" a p from → from ≤ to → ((i : ℕ) → from ≤ i → i < to → at s i ≡ code "\"" → ⊥) →
      at s to ≡ code "\"" → n ≡ to + 1 → Quoted s from to a n

-- "a whole number of one to six digits, a minus allowed directly before them": v, and whether the minus is there
pub data Whole (s : List ℕ) (v : ℕ) : Bool → ℕ → ℕ → ℕ → Type 0 where
  unsigned : {a p n : ℕ} → Spaces s a p → Numeral s v p n → p < n → n ≤ p + 6 → Whole s v false a p n
  signed : {a p m n : ℕ} → OneByte s "-" a p m → Numeral s v m n → m < n → n ≤ m + 6 → Whole s v true a p n

-- "`+` or `-`"
pub data Sign (s : List ℕ) : Op → ℕ → ℕ → ℕ → Type 0 where
  plus : {a p n : ℕ} → OneByte s "+" a p n → Sign s O.Plus a p n
  minus : {a p n : ℕ} → OneByte s "-" a p n → Sign s O.Minus a p n

-- "`eq ne lt le gt ge`"
pub data Comparison (s : List ℕ) : Op → ℕ → ℕ → ℕ → Type 0 where
  eq : {a p n : ℕ} → Word s "eq" a p n → Comparison s O.Eq a p n
  ne : {a p n : ℕ} → Word s "ne" a p n → Comparison s O.Ne a p n
  lt : {a p n : ℕ} → Word s "lt" a p n → Comparison s O.Lt a p n
  le : {a p n : ℕ} → Word s "le" a p n → Comparison s O.Le a p n
  gt : {a p n : ℕ} → Word s "gt" a p n → Comparison s O.Gt a p n
  ge : {a p n : ℕ} → Word s "ge" a p n → Comparison s O.Ge a p n

-- "`xs:date`, `xs:time`, `xs:dateTime`, `xs:dayTimeDuration` or `xs:yearMonthDuration`"
abbrev pub name_of : Kind → String
name_of K.Date = "xs:date"
name_of K.Time = "xs:time"
name_of K.DateTime = "xs:dateTime"
name_of K.DayTimeDuration = "xs:dayTimeDuration"
name_of K.YearMonthDuration = "xs:yearMonthDuration"

-- the parts of a condition; an argument is what stands in the parentheses after a kind's name, whose offset it has
pub data Phrase : Type 0 where
  Condition : Phrase
  Clause : Phrase
  Test : Phrase
  Sum : Phrase
  Term : Phrase
  Factor : Phrase
  Argument : Kind → ℕ → Phrase

-- Derives s P t a n: of the text s, a P stands from a up to n, and states the tree t. Where two parts are joined, the tree has the offset z at
-- which the left one begins, past its spaces, and the offset p of the operator.
pub data Derives (s : List ℕ) : Phrase → Tree → ℕ → ℕ → Type 0 where
  -- "A condition is clauses joined by `or`"
  one_clause : {t : Tree} {a n : ℕ} → Derives s Clause t a n → Derives s Condition t a n
  or_clause : {t u : Tree} {a z b p c n : ℕ} → Spaces s a z → Derives s Condition t a b → Word s "or" b p c → Derives s Clause u c n →
      Derives s Condition (two O.Or z p t u) a n
  -- "a clause is tests joined by `and`"
  one_test : {t : Tree} {a n : ℕ} → Derives s Test t a n → Derives s Clause t a n
  and_test : {t u : Tree} {a z b p c n : ℕ} → Spaces s a z → Derives s Clause t a b → Word s "and" b p c → Derives s Test u c n →
      Derives s Clause (two O.And z p t u) a n
  -- "A test is one sum, or two sums with `eq ne lt le gt ge` between."
  lone_sum : {t : Tree} {a n : ℕ} → Derives s Sum t a n → Derives s Test t a n
  two_sums : {t u : Tree} {o : Op} {a z b p c n : ℕ} → Spaces s a z → Derives s Sum t a b → Comparison s o b p c → Derives s Sum u c n →
      Derives s Test (two o z p t u) a n
  -- "A sum is terms joined by `+` or `-`, taken from the left."
  one_term : {t : Tree} {a n : ℕ} → Derives s Term t a n → Derives s Sum t a n
  signed_term : {t u : Tree} {o : Op} {a z b p c n : ℕ} → Spaces s a z → Derives s Sum t a b → Sign s o b p c → Derives s Term u c n →
      Derives s Sum (two o z p t u) a n
  -- "A term is a factor followed by any number of `*` and a whole number"
  one_factor : {t : Tree} {a n : ℕ} → Derives s Factor t a n → Derives s Term t a n
  times_whole : {t : Tree} {negative : Bool} {v a b q c p n : ℕ} → Derives s Term t a b → OneByte s "*" b q c → Whole s v negative c p n →
      Derives s Term (one (times negative v) p t) a n
  -- "A factor is a condition in parentheses, or `xs:date` .. with, in parentheses,"
  enclosed : {t : Tree} {a p c b q n : ℕ} → OneByte s "(" a p c → Derives s Condition t c b → OneByte s ")" b q n → Derives s Factor t a n
  of_named_kind : {k : Kind} {t : Tree} {a p m o c b q n : ℕ} → Word s (name_of k) a p m → OneByte s "(" m o c → Derives s (Argument k p) t c b →
      OneByte s ")" b q n → Derives s Factor t a n
  -- "a text in double quotes (no quote inside), a field `$1` to `$16`, or a sum to be cast."
  a_text : {k : Kind} {w from to a n : ℕ} → Quoted s from to a n → Derives s (Argument k w) (leaf k w (literal from to)) a n
  a_field : {k : Kind} {w i a p n : ℕ} → Field s i a p n → Derives s (Argument k w) (leaf k w (field i p)) a n
  a_cast : {t : Tree} {k : Kind} {w a n : ℕ} → Derives s Sum t a n → Derives s (Argument k w) (one (cast k) w t) a n

-- the text states the tree: a condition stands from its beginning on, and then spaces to its end
pub record States (s : List ℕ) (t : Tree) : Type 0 where
  pub end : ℕ
  pub derived : Derives s Condition t 0 end
  pub rest : Spaces s end (length s)
