-- docs/LINES.md, "Library example": "HEX has two of the digits `0` to `9`, `a` to `f` for each byte of the text, and at most 512 digits;
-- it may be empty."
use Rattle.std.specs.Prelude.{Bool, List, [], ◌∷◌, ◌++◌, ℕ, zero, suc, ◌+◌, ◌-◌, ◌*◌, ◌/◌, ◌%◌, Option, Some, None, is_some, unwrap_or, eqb, leb, ltb, length}
use Prim.Native.Char.{code}
use Rattle.basis.specs.Choice.{pick, every, all_pass}
use Rattle.numerals.specs.Reading.{is_digit, at}

abbrev pub most_named : ℕ
most_named = 256

-- what a digit counts
unfoldable pub hex_digit : ℕ → Option ℕ
hex_digit b =
    pick (is_digit b) (Some (b - code "0")) (pick (ltb b (code "a")) None (pick (ltb (code "f") b) None (Some (b - code "a" + 10))))

unfoldable pub all_hex : List ℕ → Bool
all_hex s = all_pass (λ (b : ℕ). is_some (hex_digit b)) s

unfoldable pub is_hex : List ℕ → Bool
is_hex s = every (leb (length s) (most_named * 2) ∷ eqb (length s % 2) 0 ∷ all_hex s ∷ [])

-- the byte that two digits name, the first counting sixteen times
abbrev pub byte_named : List ℕ → ℕ → ℕ
byte_named s i = unwrap_or (hex_digit (at s (i * 2))) 0 * 16 + unwrap_or (hex_digit (at s (i * 2 + 1))) 0

-- the first n bytes that a text names
unfoldable pub bytes_named : List ℕ → ℕ → List ℕ
bytes_named s zero = []
bytes_named s (suc n) = bytes_named s n ++ byte_named s n ∷ []

-- the bytes that a field names
unfoldable pub hex_of : List ℕ → Option (List ℕ)
hex_of s = pick (is_hex s) (Some (bytes_named s (length s / 2))) None
