-- A field of a row: of a plain line it is what document 01 says, and rows with the same texts, but for blanks round them, have the same
-- fields.
use mathlib.Core.Path.{◌≡◌}
use mathlib.Core.Bool.{true, false}
use mathlib.Core.List.{List}
use Prim.Native.Nat.{ℕ, ◌≤◌, ◌<◌}
use lib.ListN.{length}
use Rattle.basis.specs.Choice.{pick}
use Rattle.basis.specs.Answer.{Answer, refuses}
use Rattle.value.specs.Refusals.{no_field}
use Rattle.value.specs.declared.Kind.{Kind}
use Rattle.value.specs.declared.Value.{Value}
use Rattle.timetable.specs.Fields.{has_field, field_at}
use Rattle.timetable.specs.Rows.{Row, row_of, row_with, cell_text}
use Rattle.timetable.proofs.Rows.{alike_has, alike_text, row_has, row_text, with_has, with_second_lem, with_other, with_none}
use Rattle.text_blanks.specs.Blanks.{bare}
use Rattle.text.specs.Reading.{read_as}
use Rattle.text.proofs.Blanks.{same_bare_reads}
use Rattle.text_fields.specs.Fields.{read_field, bare_texts}

-- of a plain line's row it is the line's own field, and 6 where the line has none
pub plain_field : (k : Kind) (line : List ℕ) (n : ℕ) → read_field k (row_of line) n ≡ pick (has_field line n) (read_as k (field_at line n)) (refuses no_field)
unfolding read_field
plain_field k line n = rw (row_has line n, row_text line n)

-- a field is told by the row's texts without the blanks round them
pub same_field : (k : Kind) (r s : Row) (n : ℕ) → bare_texts r ≡ bare_texts s → read_field k r n ≡ read_field k s n
unfolding read_field
same_field k r s n e = rw (alike_has bare r s e n, same_bare_reads k (cell_text r n) (cell_text s n) (alike_text bare r s e n))

-- ---- a line with a made text beside it

module _ (k : Kind) (line made : List ℕ) (n : ℕ) {r : Answer Value} where
  pub no_field_lem : has_field line n ≡ false → r ≡ refuses no_field → r ≡ read_field k (row_with line made) n
  unfolding read_field
  no_field_lem e h = rw (with_has line made n, e) h

  module _ (e : has_field line n ≡ true) where
    pub made_field : n ≡ 2 → 0 < length made → r ≡ read_as k made → r ≡ read_field k (row_with line made) n
    unfolding read_field
    made_field q l h =
        let there : has_field line 2 ≡ true = rw q at e in
        rw (q, with_has line made 2, there, with_second_lem line made l there) h

    pub other_field : (n ≡ 2 → ⊥) → {w : List ℕ} → w ≡ field_at line n → r ≡ read_as k w → r ≡ read_field k (row_with line made) n
    unfolding read_field
    other_field q {w} g h = rw (with_has line made n, e, with_other line made n q, ← g) h

    pub own_field : length made ≤ 0 → {w : List ℕ} → w ≡ field_at line n → r ≡ read_as k w → r ≡ read_field k (row_with line made) n
    own_field l {w} g h = rw (with_none line made l, plain_field k line n, e, ← g) h
