-- docs/LINES.md, "The calculator": which call a line is. "A line that is no such call is answered with `refused→7`: an unknown
-- word, too few or too many fields, a K that is no kind's name, an N of another form."
use Rattle.std.specs.Prelude.{Bool, false, List, ℕ, ◌+◌, eqb, length, Option, Some, None}
use Prim.Native.Char.{code}
use Rattle.basis.specs.Choice.{pick}
use Rattle.basis.specs.Letters.{bytes}
use Rattle.timetable.specs.Fields.{fields_of, field_at}
use Rattle.numerals.specs.Reading.{at, numeral_at}
use Rattle.condition_words.specs.Words.{same}
use Rattle.value.specs.declared.Kind.{Kind}
use Rattle.condition_symbols.specs.Symbols.{named}
use Rattle.calls_asked.specs.declared.One.{One}
use Rattle.calls_asked.specs.declared.One.TheVariants as O
use Rattle.calls_asked.specs.declared.Two.{Two}
use Rattle.calls_asked.specs.declared.Two.TheVariants as T
use Rattle.calls_asked.specs.declared.CallForm.{CallForm}
use Rattle.calls_asked.specs.declared.CallForm.TheVariants as F

-- whether a line has exactly so many fields
unfoldable pub exactly : List ℕ → ℕ → Bool
exactly line n = eqb (length (fields_of line)) n

-- N: "an optional minus and one or more digits, any number of them (leading zeros are good)"
abbrev pub has_minus : List ℕ → Bool
has_minus s = eqb (at s 0) (code "-")

-- where the digits begin
abbrev pub digits_at : List ℕ → ℕ
digits_at s = pick (has_minus s) 1 0

-- one or more digits from an offset to the end
unfoldable pub digits_from : List ℕ → ℕ → Bool
digits_from s i = pick (eqb (numeral_at s i).count 0) false (eqb (i + (numeral_at s i).count) (length s))

unfoldable pub is_whole : List ℕ → Bool
is_whole s = digits_from s (digits_at s)

unfoldable pub whole_magnitude : List ℕ → ℕ
whole_magnitude s = (numeral_at s (digits_at s)).value

-- word K T
abbrev pub one_by : One → Option Kind → CallForm
one_by o None = F.No
one_by o (Some k) = F.OfOne o k

unfoldable pub one_form : List ℕ → One → CallForm
one_form line o = pick (exactly line 3) (one_by o (named (field_at line 2))) F.No

-- word K T K T
abbrev pub two_by : Two → Option Kind → Option Kind → CallForm
two_by o None second = F.No
two_by o (Some k) None = F.No
two_by o (Some k) (Some l) = F.OfTwo o k l

unfoldable pub two_form : List ℕ → Two → CallForm
two_form line o = pick (exactly line 5) (two_by o (named (field_at line 2)) (named (field_at line 4))) F.No

-- `multiply` K T N
abbrev pub product_by : Bool → Option Kind → CallForm
product_by whole None = F.No
product_by whole (Some k) = pick whole (F.Product k) F.No

unfoldable pub product_form : List ℕ → CallForm
product_form line = pick (exactly line 4) (product_by (is_whole (field_at line 4)) (named (field_at line 2))) F.No

-- `cast` K T K
abbrev pub cast_by : Option Kind → Option Kind → CallForm
cast_by None second = F.No
cast_by (Some k) None = F.No
cast_by (Some k) (Some l) = F.Cast k l

unfoldable pub cast_form : List ℕ → CallForm
cast_form line = pick (exactly line 4) (cast_by (named (field_at line 2)) (named (field_at line 4))) F.No

-- the call by its word
unfoldable pub pair_by : List ℕ → List ℕ → CallForm
pair_by line word =
    pick (same word (bytes "compare")) (two_form line T.Compare)
    (pick (same word (bytes "add")) (two_form line T.Add)
    (pick (same word (bytes "subtract")) (two_form line T.Subtract)
    (pick (same word (bytes "adjust")) (two_form line T.Adjust) F.No)))

unfoldable pub form_by : List ℕ → List ℕ → CallForm
form_by line word =
    pick (same word (bytes "read")) (one_form line O.Read)
    (pick (same word (bytes "unzone")) (one_form line O.Unzone)
    (pick (same word (bytes "components")) (one_form line O.Components)
    (pick (same word (bytes "multiply")) (product_form line)
    (pick (same word (bytes "cast")) (cast_form line) (pair_by line word)))))

unfoldable pub form_of : List ℕ → CallForm
form_of line = form_by line (field_at line 1)
