-- Small timetables and lines worked out: the empty one, one with a last line that lacks its byte 10, empty lines and fields.
use mathlib.Core.Path.{◌≡◌, refl}
use mathlib.Core.Bool.{true, false}
use mathlib.Core.List.{[], ◌∷◌}
use Rattle.basis.specs.Choice.{both}
use Rattle.basis.specs.Letters.{bytes}
use Rattle.timetable.specs.Parted.{onto, parted, bytes_before}
use Rattle.timetable.specs.Lines.{less_empty_last, lines_of, with_offsets, lines_from, offset_lines, line_end, after_end, next_line}
use Rattle.timetable.specs.Fields.{fields_of, has_field, field_at}

empty_timetable : lines_of (bytes "") ≡ []
unfolding lines_of parted less_empty_last
empty_timetable = refl

one_empty_line : lines_of (bytes "\n") ≡ [] ∷ []
unfolding lines_of parted less_empty_last
one_empty_line = refl

last_without_end : lines_of (bytes "a\nb") ≡ bytes "a" ∷ bytes "b" ∷ []
unfolding lines_of parted onto less_empty_last
last_without_end = refl

last_with_end : lines_of (bytes "a\nb\n") ≡ bytes "a" ∷ bytes "b" ∷ []
unfolding lines_of parted onto less_empty_last
last_with_end = refl

last_empty : lines_of (bytes "a\n\n") ≡ bytes "a" ∷ [] ∷ []
unfolding lines_of parted onto less_empty_last
last_empty = refl

offsets : offset_lines (bytes "ab\n\nc") ≡ record { offset = 0; text = bytes "ab" } ∷ record { offset = 3; text = [] } ∷ record { offset = 4; text = bytes "c" } ∷ []
unfolding offset_lines lines_from with_offsets lines_of parted onto less_empty_last
offsets = refl

ends : (line_end (bytes "ab\nc") 0 ≡ 2) × (next_line (bytes "ab\nc") 0 ≡ 3) × (next_line (bytes "ab\nc") 3 ≡ 4) × (next_line (bytes "ab\nc") 4 ≡ 4)
unfolding next_line after_end line_end bytes_before
ends = (refl, refl, refl, refl)

empty_line : fields_of (bytes "") ≡ [] ∷ []
unfolding fields_of parted
empty_line = refl

final_tab : fields_of (bytes "a\t") ≡ bytes "a" ∷ [] ∷ []
unfolding fields_of parted onto
final_tab = refl

only_tabs : fields_of (bytes "\t\t") ≡ [] ∷ [] ∷ [] ∷ []
unfolding fields_of parted
only_tabs = refl

second_field : field_at (bytes "12\t06:00\tx") 2 ≡ bytes "06:00"
unfolding field_at has_field both fields_of parted onto
second_field = refl

counted_fields : (has_field (bytes "a\t") 0 ≡ false) × (has_field (bytes "a\t") 2 ≡ true) × (has_field (bytes "a\t") 3 ≡ false)
unfolding has_field both fields_of parted onto
counted_fields = (refl, refl, refl)
