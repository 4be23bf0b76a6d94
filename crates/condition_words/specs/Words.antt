-- Document 01, "Conditions": "Any number of spaces (byte 32) may stand around symbols"; "A word is a longest run of ASCII
-- letters and colons". A byte past the end of a text counts as 0, which belongs to no symbol.
use Rattle.std.specs.Prelude.{Bool, true, false, not, List, [], ◌∷◌, ℕ, zero, suc, ◌+◌, ◌-◌, leb, eqb, length, get_or, take, drop}
use Prim.Native.Char.{code}
use Rattle.basis.specs.Choice.{pick, both}
use Rattle.condition_words.specs.declared.Class.{Class}
use Rattle.condition_words.specs.declared.Class.TheVariants.{Space, Letter, Unquoted}

abbrev pub quote : ℕ
quote = code "\""

-- ASCII letters and colons
unfoldable pub letter : ℕ → Bool
letter b =
    pick (eqb b (code ":")) true (pick (leb (code "a") b) (leb b (code "z")) (both (leb (code "A") b) (leb b (code "Z"))))

-- whether a byte is a space, a letter of a word, or a byte of a text in quotes
unfoldable pub belongs : Class → ℕ → Bool
belongs Space b = eqb b (code " ")
belongs Letter b = letter b
belongs Unquoted b = not (eqb b quote)

-- where the longest stretch of bytes of a class ends that begins at an offset, of at most n bytes
unfoldable pub stretch_end_in : ℕ → Class → List ℕ → ℕ → ℕ
stretch_end_in zero c s at = at
stretch_end_in (suc n) c s at = let further = stretch_end_in n c s (at + 1) in pick (belongs c (get_or s at 0)) further at

unfoldable pub stretch_end : Class → List ℕ → ℕ → ℕ
stretch_end c s at = stretch_end_in (length s - at) c s at

-- past the spaces from an offset on
abbrev pub skipped : List ℕ → ℕ → ℕ
skipped s at = stretch_end Space s at

-- the bytes of a text between two offsets
abbrev pub between : List ℕ → ℕ → ℕ → List ℕ
between s from to = take (to - from) (drop from s)

-- the word at an offset: empty where no letter stands there
abbrev pub word_at : List ℕ → ℕ → List ℕ
word_at s at = between s at (stretch_end Letter s at)

-- whether two words are the same
unfoldable pub same : List ℕ → List ℕ → Bool
same [] [] = true
same [] (y ∷ ys) = false
same (x ∷ xs) [] = false
same (x ∷ xs) (y ∷ ys) = both (eqb x y) (same xs ys)
