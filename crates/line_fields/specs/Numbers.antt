-- docs/LINES.md, "Hostile desks": "N is one to twenty digits, leading zeros allowed, and at most" a bound.
use Rattle.std.specs.Prelude.{List, ℕ, Option, Some, None, leb, eqb, length}
use Rattle.basis.specs.Choice.{pick}
use Rattle.numerals.specs.Reading.{numeral_at}
use Rattle.numerals.specs.Reading as reading

-- the longest number has so many digits
abbrev pub max_number_digits : ℕ
max_number_digits = 20

-- the greatest number, where nothing else bounds it
abbrev pub greatest : ℕ
greatest = 18_446_744_073_709_551_615

-- the stretch of digits at the start of a text of some length, where it is the whole text and its number is within the bound
unfoldable pub whole_within : ℕ → ℕ → reading.Number → Option ℕ
whole_within most long n = pick (eqb n.count long) (pick (leb n.value most) (Some n.value) None) None

unfoldable pub number_of : ℕ → List ℕ → Option ℕ
number_of most s =
    pick (leb 1 (length s)) (pick (leb (length s) max_number_digits) (whole_within most (length s) (numeral_at s 0)) None) None
