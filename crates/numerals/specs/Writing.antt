-- Document 01, "Writing text": numbers and fractions as digits.
use Rattle.std.specs.Prelude.{List, [], ◌∷◌, ◌++◌, ℕ, zero, suc, ◌+◌, ◌/◌, ◌%◌, eqb, ltb}
use Prim.Native.Char.{code}
use Rattle.basis.specs.Choice.{pick}
use Rattle.numerals.specs.Reading.{fraction_digits}
use Rattle.numerals.specs.declared.Kept.{Kept}

-- Document 02, e: "The longest text has 35 bytes"
abbrev pub longest : ℕ
longest = 35

-- the last k decimal digits of n, with leading zeros
unfoldable pub digits : ℕ → ℕ → List ℕ
digits zero n = []
digits (suc k) n = digits k (n / 10) ++ (code "0" + n % 10) ∷ []

-- n in decimal without leading zeros, in at most k digits
unfoldable pub shortest : ℕ → ℕ → List ℕ
shortest zero n = []
shortest (suc k) n = pick (ltb n 10) ((code "0" + n) ∷ []) (shortest k (n / 10) ++ (code "0" + n % 10) ∷ [])

-- n in decimal without leading zeros: n is below 10 ^ (n + 1)
unfoldable pub decimal : ℕ → List ℕ
decimal n = shortest (suc n) n

-- a number of k digits without its final zeros
unfoldable pub kept_digits : ℕ → ℕ → Kept
kept_digits zero n = record { value = n; count = 0 }
kept_digits (suc k) n = pick (eqb (n % 10) 0) (kept_digits k (n / 10)) (record { value = n; count = suc k })

-- a fraction loses its final zeros and vanishes if zero
unfoldable pub fraction_text : ℕ → List ℕ
fraction_text u = pick (eqb u 0) [] (code "." ∷ digits (kept_digits fraction_digits u).count (kept_digits fraction_digits u).value)
