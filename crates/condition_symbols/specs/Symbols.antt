-- Document 01, "Conditions": the symbols of a condition, each where it is looked for: at the first offset that holds no
-- space. An offset that is given with a symbol is that of its first byte, and `end` is the offset after it.
use Rattle.std.specs.Prelude.{Bool, true, false, List, ℕ, ◌+◌, leb, ltb, eqb, length, get_or, Option, Some, None, Result, Ok, Err}
use Prim.Native.Char.{code}
use Rattle.basis.specs.Choice.{pick}
use Rattle.basis.specs.Letters.{bytes}
use Rattle.numerals.specs.Reading.{Number, numeral_at}
use Rattle.value.specs.declared.Kind.{Kind}
use Rattle.value.specs.declared.Kind.TheVariants as K
use Rattle.condition_depth.specs.Depth.{opening, closing}
use Rattle.condition_words.specs.Words.{stretch_end, skipped, word_at, same, quote}
use Rattle.condition_words.specs.declared.Class.TheVariants.{Letter, Unquoted}
use Rattle.condition_symbols.specs.declared.Op.{Op}
use Rattle.condition_symbols.specs.declared.Op.TheVariants as O
use Rattle.condition_symbols.specs.declared.Joint.{Joint}
use Rattle.condition_symbols.specs.declared.Start.{Start}
use Rattle.condition_symbols.specs.declared.Start.TheVariants as S
use Rattle.condition_symbols.specs.declared.Held.{Held}
use Rattle.condition_symbols.specs.declared.Held.TheVariants as H
use Rattle.condition_symbols.specs.declared.Multiplier.{Multiplier}
use Rattle.condition_symbols.specs.declared.NoNumber.{NoNumber}

-- one byte, as a parenthesis
unfoldable pub mark_at : List ℕ → ℕ → ℕ → Option ℕ
mark_at s at b = pick (eqb (get_or s (skipped s at) 0) b) (Some (skipped s at + 1)) None

abbrev pub opening_at : List ℕ → ℕ → Option ℕ
opening_at s at = mark_at s at opening

abbrev pub closing_at : List ℕ → ℕ → Option ℕ
closing_at s at = mark_at s at closing

-- an operator that stands from an offset up to another
abbrev pub joint_of : Op → ℕ → ℕ → Joint
joint_of o p n = record { op = o; at = p; end = n }

-- one word that is an operator
unfoldable pub operator_at : List ℕ → ℕ → List ℕ → Op → Option Joint
operator_at s at w o = pick (same (word_at s (skipped s at)) w) (Some (joint_of o (skipped s at) (stretch_end Letter s (skipped s at)))) None

abbrev pub or_at : List ℕ → ℕ → Option Joint
or_at s at = operator_at s at (bytes "or") O.Or

abbrev pub and_at : List ℕ → ℕ → Option Joint
and_at s at = operator_at s at (bytes "and") O.And

-- "`eq ne lt le gt ge`"
unfoldable pub comparing : List ℕ → Option Op
comparing w =
    pick (same w (bytes "eq")) (Some O.Eq)
    (pick (same w (bytes "ne")) (Some O.Ne)
    (pick (same w (bytes "lt")) (Some O.Lt)
    (pick (same w (bytes "le")) (Some O.Le)
    (pick (same w (bytes "gt")) (Some O.Gt)
    (pick (same w (bytes "ge")) (Some O.Ge) None)))))

abbrev pub word_joint : Option Op → ℕ → ℕ → Option Joint
word_joint None p n = None
word_joint (Some o) p n = Some (joint_of o p n)

unfoldable pub comparison_at : List ℕ → ℕ → Option Joint
comparison_at s at = word_joint (comparing (word_at s (skipped s at))) (skipped s at) (stretch_end Letter s (skipped s at))

-- "`+` or `-`"
unfoldable pub sign_at : List ℕ → ℕ → Option Joint
sign_at s at =
    pick (eqb (get_or s (skipped s at) 0) (code "+")) (Some (joint_of O.Plus (skipped s at) (skipped s at + 1)))
    (pick (eqb (get_or s (skipped s at) 0) (code "-")) (Some (joint_of O.Minus (skipped s at) (skipped s at + 1))) None)

-- "`xs:date`, `xs:time`, `xs:dateTime`, `xs:dayTimeDuration` or `xs:yearMonthDuration`"
unfoldable pub named : List ℕ → Option Kind
named w =
    pick (same w (bytes "xs:date")) (Some K.Date)
    (pick (same w (bytes "xs:time")) (Some K.Time)
    (pick (same w (bytes "xs:dateTime")) (Some K.DateTime)
    (pick (same w (bytes "xs:dayTimeDuration")) (Some K.DayTimeDuration)
    (pick (same w (bytes "xs:yearMonthDuration")) (Some K.YearMonthDuration) None))))

-- a kind's name goes on with a parenthesis
abbrev pub kind_start : Kind → ℕ → Option ℕ → Option Start
kind_start k from None = None
kind_start k from (Some n) = Some (S.Make k from n)

abbrev pub makes : List ℕ → ℕ → Option Kind → Option Start
makes s p None = None
makes s p (Some k) = kind_start k p (opening_at s (stretch_end Letter s p))

-- how a factor begins: a parenthesis, or a kind's name and a parenthesis
unfoldable pub start_at : List ℕ → ℕ → Option Start
start_at s at =
    pick (eqb (get_or s (skipped s at) 0) opening) (Some (S.Open (skipped s at + 1))) (makes s (skipped s at) (named (word_at s (skipped s at))))

-- "a text in double quotes (no quote inside)": the bytes after the quote up to the next, which has to be there
unfoldable pub text_from : List ℕ → ℕ → Option Held
text_from s from = pick (ltb (stretch_end Unquoted s from) (length s)) (Some (H.Text from (stretch_end Unquoted s from) (stretch_end Unquoted s from + 1))) None

-- "a field `$1` to `$16`", "one symbol without leading zeros"
abbrev pub max_field : ℕ
max_field = 16

unfoldable pub field_of : ℕ → ℕ → Number → Option Held
field_of first from n =
    pick (eqb first (code "0")) None
    (pick (leb 1 n.value) (pick (leb n.value max_field) (Some (H.Field n.value from (from + 1 + n.count))) None) None)

unfoldable pub field_from : List ℕ → ℕ → Option Held
field_from s from = field_of (get_or s (from + 1) 0) from (numeral_at s (from + 1))

-- what stands after a kind's name and its parenthesis: a text, a field, or else a sum; nothing where a quote or a `$`
-- begins neither
unfoldable pub held_at : List ℕ → ℕ → Option Held
held_at s at =
    pick (eqb (get_or s (skipped s at) 0) quote) (text_from s (skipped s at + 1))
    (pick (eqb (get_or s (skipped s at) 0) (code "$")) (field_from s (skipped s at)) (Some H.Sum))

-- "`*` and a whole number of one to six digits, a minus allowed directly before them": no `*`, or one with its whole
-- number, or one without
abbrev pub max_digits : ℕ
max_digits = 6

abbrev pub Multiplied : Type 0
Multiplied = Result (Option Multiplier) NoNumber

abbrev pub without_number : NoNumber
without_number = record {}

abbrev pub multiplier_of : Bool → ℕ → ℕ → ℕ → Multiplier
multiplier_of negative v p n = record { negative = negative; number = v; at = p; end = n }

unfoldable pub whole_of : Bool → ℕ → ℕ → Number → Result Multiplier NoNumber
whole_of negative from digits n =
    pick (leb 1 n.count)
    (pick (leb n.count max_digits) (Ok (multiplier_of negative n.value from (digits + n.count))) (Err without_number)) (Err without_number)

unfoldable pub whole_from : List ℕ → ℕ → Result Multiplier NoNumber
whole_from s p = pick (eqb (get_or s p 0) (code "-")) (whole_of true p (p + 1) (numeral_at s (p + 1))) (whole_of false p p (numeral_at s p))

abbrev pub after_star : Result Multiplier NoNumber → Multiplied
after_star (Ok m) = Ok (Some m)
after_star (Err e) = Err e

unfoldable pub multiplier_at : List ℕ → ℕ → Multiplied
multiplier_at s at = pick (eqb (get_or s (skipped s at) 0) (code "*")) (after_star (whole_from s (skipped s (skipped s at + 1)))) (Ok None)
