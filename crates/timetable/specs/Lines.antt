-- Document 01, "Timetable, seats and turns": "Lines end with byte 10; a last line may lack it."
use Rattle.std.specs.Prelude.{List, [], ◌∷◌, ℕ, ◌+◌, ◌-◌, ltb, length, take, drop}
use Prim.Native.Char.{code}
use Rattle.basis.specs.Choice.{pick}
use Rattle.timetable.specs.Parted.{parted, bytes_before}

-- the byte that ends a line
abbrev pub newline : ℕ
newline = code "\n"

-- parts less a last one that is empty
unfoldable pub less_empty_last : List (List ℕ) → List (List ℕ)
less_empty_last [] = []
less_empty_last ([] ∷ []) = []
less_empty_last ((b ∷ bs) ∷ []) = (b ∷ bs) ∷ []
less_empty_last (p ∷ q ∷ ps) = p ∷ less_empty_last (q ∷ ps)

-- the lines of a timetable: a final byte 10 adds no line, and the empty timetable has none
unfoldable pub lines_of : List ℕ → List (List ℕ)
lines_of t = less_empty_last (parted newline t)

unfoldable pub line_count : List ℕ → ℕ
line_count t = length (lines_of t)

-- a line with the offset at which it starts
pub record Line : Type 0 where
  pub offset : ℕ
  pub text : List ℕ

-- lines one after the other, the first at an offset; each takes its bytes and the byte 10
unfoldable pub with_offsets : ℕ → List (List ℕ) → List Line
with_offsets at [] = []
with_offsets at (l ∷ ls) = record { offset = at; text = l } ∷ with_offsets (at + length l + 1) ls

-- the lines of what stands from an offset on
unfoldable pub lines_from : List ℕ → ℕ → List Line
lines_from t at = with_offsets at (lines_of (drop at t))

-- the lines of a timetable with their offsets
unfoldable pub offset_lines : List ℕ → List Line
offset_lines t = lines_from t 0

-- where the line at an offset ends: at the next byte 10, or at the end of the timetable. An offset past the end is its own
-- line's end, and the next line's start.
unfoldable pub line_end : List ℕ → ℕ → ℕ
line_end t at = at + bytes_before newline (drop at t)

-- the offset after a line's end: past the byte 10, if one is there
unfoldable pub after_end : List ℕ → ℕ → ℕ
after_end t end = pick (ltb end (length t)) (end + 1) end

-- where the line after the one at an offset starts
unfoldable pub next_line : List ℕ → ℕ → ℕ
next_line t at = after_end t (line_end t at)

-- the line at an offset: the bytes up to its end
unfoldable pub line_at : List ℕ → ℕ → Line
line_at t at = record { offset = at; text = take (line_end t at - at) (drop at t) }
