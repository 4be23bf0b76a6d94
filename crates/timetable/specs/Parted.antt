-- Document 01, "Timetable, seats and turns": lines end with byte 10, fields are parted by byte 9. What the parts between a
-- byte are, for any byte.
use Rattle.std.specs.Prelude.{List, [], ◌∷◌, ℕ, suc, eqb}
use Rattle.basis.specs.Choice.{pick}

-- one byte more at the head of the first part
unfoldable pub onto : ℕ → List (List ℕ) → List (List ℕ)
onto b [] = (b ∷ []) ∷ []
onto b (p ∷ ps) = (b ∷ p) ∷ ps

-- the parts between the bytes c: one more than there are bytes c, so always at least one; a part may be empty
unfoldable pub parted : ℕ → List ℕ → List (List ℕ)
parted c [] = [] ∷ []
parted c (b ∷ bs) = pick (eqb b c) ([] ∷ parted c bs) (onto b (parted c bs))

-- how many bytes stand before the first byte c: all of them where there is none
unfoldable pub bytes_before : ℕ → List ℕ → ℕ
bytes_before c [] = 0
bytes_before c (b ∷ bs) = pick (eqb b c) 0 (suc (bytes_before c bs))
