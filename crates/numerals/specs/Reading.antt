-- Document 01, "Reading text": digits, stretches of them, and the digits of a fraction. A number that is read has no bound
-- here, however many digits it has. A byte past the end of a text counts as 0, which is no digit and no punctuation.
use Rattle.std.specs.Prelude.{Bool, true, false, List, [], ◌∷◌, ℕ, suc, ◌+◌, ◌-◌, ◌*◌, ◌^◌, leb, get_or, drop}
use Prim.Native.Char.{code}
use Rattle.basis.specs.Choice.{pick, both}
use Rattle.numerals.specs.declared.Fraction.{Fraction}

-- the byte of a text at an offset
abbrev pub at : List ℕ → ℕ → ℕ
at s i = get_or s i 0

-- 0 to 9
unfoldable pub is_digit : ℕ → Bool
is_digit b = both (leb (code "0") b) (leb b (code "9"))

-- a stretch of digits: their number, and how many they are
pub record Number : Type 0 where
  pub value : ℕ
  pub count : ℕ

-- the longest stretch of digits at the head of a list, after k digits of the number v
unfoldable pub number : ℕ → ℕ → List ℕ → Number
number v k [] = record { value = v; count = k }
number v k (x ∷ xs) = pick (is_digit x) (number (v * 10 + (x - code "0")) (suc k) xs) (record { value = v; count = k })

-- the longest stretch of digits of a text from an offset on
abbrev pub numeral_at : List ℕ → ℕ → Number
numeral_at s i = number 0 0 (drop i s)

-- Document 02, e: "3 starts at the tenth digit". A fraction has at most so many digits, each a tenth of the one before;
-- the last counts ticks
abbrev pub fraction_digits : ℕ
fraction_digits = 9

-- the digits after a point: their ticks, or that they are too many, and where they end
abbrev pub fraction_of : ℕ → Number → Fraction
fraction_of i n =
    pick (leb n.count fraction_digits) (record { ticks = n.value * 10 ^ (fraction_digits - n.count); long = false; end = i + n.count })
    (record { ticks = 0; long = true; end = i + n.count })

unfoldable pub fraction_at : List ℕ → ℕ → Fraction
fraction_at s i = fraction_of i (numeral_at s i)
