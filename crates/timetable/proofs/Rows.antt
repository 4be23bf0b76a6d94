-- The row of a plain line has the line's fields, each where it stands; a made text takes the second field's place and no other's.
use mathlib.Core.Path.{◌≡◌, refl, sym, ap, ◌∙◌}
use mathlib.Core.Logic.{◌⊎◌, inl, inr, ⊎_elim}
use mathlib.Core.Bool.{Bool, true, false}
use mathlib.Core.List.Memᴰ
use mathlib.Core.List.{List, [], ◌∷◌, map, Memᴰ}
use Prim.Native.Nat.{ℕ, zero, suc, ◌+◌, ◌-◌, ◌≤◌, ◌<◌}
use native.Mathlib.Omega.{arith}
use lib.Dec.{eqb, leb, ltb}
use lib.ListN.{length, get_or, take, drop, length-drop, length-map, get_or-map}
use lib.Seq.{drop-drop, get_or-drop, length-take-le}
use borrow.Author.Tests.{eqb-true, leb-true, ltb-true, ltb-false}
use Rattle.basis.specs.Choice.{pick, both}
use Rattle.timetable.specs.Parted.{parted, bytes_before}
use Rattle.timetable.specs.Fields.{tab, fields_of, has_field, field_at}
use Rattle.timetable.specs.Rows.{stands_at, stands_nowhere, Cell, Row, texts_of, row_from, row_of, with_second, row_with, has_cell, cell_text}
use Rattle.timetable.proofs.Parting.{before_within, first_part, parts_after}

-- ---- a row by its texts

abbrev no_cell : Cell
no_cell = record { text = []; standing = stands_nowhere }

-- which fields a row has, and what each says, is told by its texts
pub has_by_texts : (row : Row) (n : ℕ) → has_cell row n ≡ both (leb 1 n) (leb n (length (texts_of row)))
unfolding has_cell
has_by_texts row n = rw (length-map row (λ c. c.text))

pub text_by_texts : (row : Row) (n : ℕ) → cell_text row n ≡ pick (has_cell row n) (get_or (texts_of row) (n - 1) []) []
unfolding cell_text
text_by_texts row n = ap (λ x. pick (has_cell row n) x []) (sym (get_or-map (λ c. c.text) row (n - 1) no_cell))

-- so rows that are alike in what is asked of each text are the same to whoever asks for no more of a field
module _ {A : Type 0} (f : List ℕ → A) (r s : Row) (e : map f (texts_of r) ≡ map f (texts_of s)) where
  pub alike_has : (n : ℕ) → has_cell r n ≡ has_cell s n
  alike_has n =
      let l : length (texts_of r) ≡ length (texts_of s) = sym (length-map (texts_of r) f) ∙ ap length e ∙ length-map (texts_of s) f in
      rw (has_by_texts r n, has_by_texts s n, l)

  pub alike_text : (n : ℕ) → f (cell_text r n) ≡ f (cell_text s n)
  alike_text n = rw (text_by_texts r n, text_by_texts s n, alike_has n) (go (has_cell s n))
    where
      go : (x : Bool) → f (pick x (get_or (texts_of r) (n - 1) []) []) ≡ f (pick x (get_or (texts_of s) (n - 1) []) [])
      go true = sym (get_or-map f (texts_of r) (n - 1) []) ∙ ap (λ l. get_or l (n - 1) (f [])) e ∙ get_or-map f (texts_of s) (n - 1) []
      go false = refl

-- ---- the row of a plain line

texts_from : (o : ℕ) (fs : List (List ℕ)) → texts_of (row_from o fs) ≡ fs
unfolding row_from
texts_from o [] = refl
texts_from o (f ∷ fs) = ap (λ x. f ∷ x) (texts_from (o + length f + 1) fs)

-- its texts are the line's fields in order
pub row_texts : (line : List ℕ) → texts_of (row_of line) ≡ fields_of line
unfolding row_of
row_texts line = texts_from 0 (fields_of line)

pub row_has : (line : List ℕ) (n : ℕ) → has_cell (row_of line) n ≡ has_field line n
unfolding has_field
row_has line n = rw (has_by_texts (row_of line) n, row_texts line)

pub row_text : (line : List ℕ) (n : ℕ) → cell_text (row_of line) n ≡ field_at line n
unfolding field_at
row_text line n = rw (text_by_texts (row_of line) n, row_texts line, row_has line n)

-- ---- a made text in the second field's place

module _ (made : List ℕ) where
  as_long : (row : Row) → length (with_second made row) ≡ length row
  unfolding with_second
  as_long [] = refl
  as_long (c ∷ []) = refl
  as_long (c ∷ d ∷ cs) = refl

  kept_has : (row : Row) (n : ℕ) → has_cell (with_second made row) n ≡ has_cell row n
  unfolding has_cell
  kept_has row n = rw (as_long row)

  second_at : (row : Row) → 1 < length row → (get_or (with_second made row) 1 no_cell).text ≡ made
  unfolding with_second
  second_at [] h = absurd (omega arith)
  second_at (c ∷ []) h = absurd (omega arith)
  second_at (c ∷ d ∷ cs) h = refl

  other_at : (row : Row) (i : ℕ) → (i ≡ 1 → ⊥) → (get_or (with_second made row) i no_cell).text ≡ (get_or row i no_cell).text
  unfolding with_second
  other_at [] i h = refl
  other_at (c ∷ []) i h = refl
  other_at (c ∷ d ∷ cs) zero h = refl
  other_at (c ∷ d ∷ cs) (suc zero) h = absurd (h refl)
  other_at (c ∷ d ∷ cs) (suc (suc i)) h = refl

  two_long : (row : Row) → has_cell row 2 ≡ true → 1 < length row
  unfolding has_cell both
  two_long row e = omega (arith, leb-true 2 (length row) e)

  made_second : (row : Row) → has_cell row 2 ≡ true → cell_text (with_second made row) 2 ≡ made
  unfolding cell_text
  made_second row e = rw (kept_has row 2, e) (second_at row (two_long row e))

  kept_other : (row : Row) (n : ℕ) → (n ≡ 2 → ⊥) → cell_text (with_second made row) n ≡ cell_text row n
  unfolding cell_text
  kept_other row n h = rw (kept_has row n) (go (has_cell row n) n h)
    where
      go : (x : Bool) (n : ℕ) → (n ≡ 2 → ⊥) → pick x (get_or (with_second made row) (n - 1) no_cell).text [] ≡ pick x (get_or row (n - 1) no_cell).text []
      go x n h = rw (other_at row (n - 1) (λ e. h (omega arith)))

-- rows that are alike stay so with one made text second
module _ {A : Type 0} (f : List ℕ → A) (made : List ℕ) where
  abbrev second_is : List A → List A
  second_is [] = []
  second_is (x ∷ []) = x ∷ []
  second_is (x ∷ y ∷ zs) = x ∷ f made ∷ zs

  second_of : (row : Row) → map f (texts_of (with_second made row)) ≡ second_is (map f (texts_of row))
  unfolding with_second
  second_of [] = refl
  second_of (c ∷ []) = refl
  second_of (c ∷ d ∷ cs) = refl

  pub alike_second : (r s : Row) → map f (texts_of r) ≡ map f (texts_of s) → map f (texts_of (with_second made r)) ≡ map f (texts_of (with_second made s))
  alike_second r s e = second_of r ∙ ap second_is e ∙ sym (second_of s)

-- the made text leaves which fields the row has
pub with_has : (line made : List ℕ) (n : ℕ) → has_cell (row_with line made) n ≡ has_field line n
unfolding row_with
with_has line [] n = row_has line n
with_has line (b ∷ bs) n = kept_has (b ∷ bs) (row_of line) n ∙ row_has line n

-- it is the second one's text
pub with_second_lem : (line made : List ℕ) → 0 < length made → has_field line 2 ≡ true → cell_text (row_with line made) 2 ≡ made
unfolding row_with
with_second_lem line [] h e = absurd (omega arith)
with_second_lem line (b ∷ bs) h e = made_second (b ∷ bs) (row_of line) (row_has line 2 ∙ e)

-- all others are the line's own
pub with_other : (line made : List ℕ) (n : ℕ) → (n ≡ 2 → ⊥) → cell_text (row_with line made) n ≡ field_at line n
unfolding row_with
with_other line [] n h = row_text line n
with_other line (b ∷ bs) n h = kept_other (b ∷ bs) (row_of line) n h ∙ row_text line n

-- with no made text the row is the line's
pub with_none : (line made : List ℕ) → length made ≤ 0 → row_with line made ≡ row_of line
unfolding row_with
with_none line [] h = refl
with_none line (b ∷ bs) h = absurd (omega arith)

-- and with one it is the row with that text second
pub with_some : (line made : List ℕ) → 0 < length made → row_with line made ≡ with_second made (row_of line)
unfolding row_with
with_some line [] h = absurd (omega arith)
with_some line (b ∷ bs) h = refl

-- ---- where a field stands

-- a cell stands in a line where it says: its bytes are those there; before them the line begins or a tab stands, and after them
-- a tab stands or the line ends
pub record Stands (line : List ℕ) (c : Cell) : Type 0 where
  pub at : ℕ
  pub says : c.standing ≡ stands_at at
  pub there : take (length c.text) (drop at line) ≡ c.text
  pub begins : (at ≡ 0) ⊎ ((0 < at) × (get_or line (at - 1) 0 ≡ tab))
  pub ends : (at + length c.text ≡ length line) ⊎ (get_or line (at + length c.text) 0 ≡ tab)

-- after the bytes before the first byte c stands that byte
found_there : (c : ℕ) (s : List ℕ) → bytes_before c s < length s → get_or s (bytes_before c s) 0 ≡ c
unfolding bytes_before
found_there c [] h = absurd (omega arith)
found_there c (b ∷ bs) h = go (eqb b c) refl (found_there c bs) h
  where
    go : (x : Bool) → eqb b c ≡ x → (bytes_before c bs < length bs → get_or bs (bytes_before c bs) 0 ≡ c)
        → pick x 0 (suc (bytes_before c bs)) < suc (length bs) → get_or (b ∷ bs) (pick x 0 (suc (bytes_before c bs))) 0 ≡ c
    go true e f h = eqb-true b c e
    go false e f h = f (omega arith)

module _ (line : List ℕ) (c : Cell) where
  abbrev Begins : ℕ → Type 0
  Begins o = (o ≡ 0) ⊎ ((0 < o) × (get_or line (o - 1) 0 ≡ tab))

  abbrev From : ℕ → Type 0
  From o = Memᴰ c (row_from o (parted tab (drop o line)))

  -- a cell of the fields from an offset on is the first of them, or one of those after the next tab
  stands_step : (o : ℕ) → o ≤ length line → Begins o
      → ((p : ℕ) → o < p → p ≤ length line → Begins p → From p → Stands line c) → From o → Stands line c
  unfolding row_from
  stands_step o w b next m = ⊎_elim here (λ t. later (ltb n (length s)) refl t) (Memᴰ.cases_cons m2)
    where
      s : List ℕ
      s = drop o line

      n : ℕ
      n = bytes_before tab s

      long : length (take n s) ≡ n
      long = length-take-le n s (before_within tab s)

      left : length s ≡ length line - o
      left = length-drop o line

      m2 : Memᴰ c (record { text = take n s; standing = stands_at o } ∷ row_from (o + length (take n s) + 1) (parts_after tab n s))
      m2 = rw (first_part tab s) at m

      byte : n < length s → get_or line (o + n) 0 ≡ tab
      byte l = sym (get_or-drop o line n 0) ∙ found_there tab s l

      ended : (x : Bool) → ltb n (length s) ≡ x → (o + length (take n s) ≡ length line) ⊎ (get_or line (o + length (take n s)) 0 ≡ tab)
      ended true e = inr (rw long (byte (ltb-true n (length s) e)))
      ended false e = inl (omega (arith, long, left, ltb-false n (length s) e, before_within tab s))

      here : c ≡ record { text = take n s; standing = stands_at o } → Stands line c
      here e = rw e (record { at = o; says = refl; there = rw long; begins = b; ends = ended (ltb n (length s)) refl })

      later : (x : Bool) → ltb n (length s) ≡ x
          → Memᴰ c (row_from (o + length (take n s) + 1) (pick x (parted tab (drop (suc n) s)) [])) → Stands line c
      later false e t = absurd (Memᴰ.not-nil t)
      later true e t =
          let l = ltb-true n (length s) e in
          let z : o + suc n ≡ o + n + 1 = omega arith in
          let q : o + n + 1 - 1 ≡ o + n = omega arith in
          let t2 : From (o + n + 1) = rw (long, drop-drop (suc n) o line, z) at t in
          next (o + n + 1) (omega arith) (omega (arith, left)) (inr (omega arith, rw q (byte l))) t2

  stands_from : (k o : ℕ) → length line - o ≤ k → o ≤ length line → Begins o → From o → Stands line c
  stands_from zero o h w b m = stands_step o w b (λ p l v d t. absurd (omega arith)) m
  stands_from (suc k) o h w b m = stands_step o w b (λ p l v d t. stands_from k p (omega arith) v d t) m

-- each cell of a plain line's row stands where it says
pub row_stands : (line : List ℕ) (c : Cell) → Memᴰ c (row_of line) → Stands line c
unfolding row_of fields_of
row_stands line c m = stands_from line c (length line) 0 (omega arith) (omega arith) (inl refl) m
