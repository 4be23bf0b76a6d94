-- Document 01, "Writing text": the text of a date, a time or a dateTime. Local fields and zone are kept; zone 0 is Z; a
-- fraction loses its final zeros and vanishes if zero. The text is that of the parts of the kind's layout, in order.
use Rattle.std.specs.Prelude.{List, [], ◌∷◌, ◌++◌, ℕ, ◌/◌, ◌%◌, eqb, None, Option, Some}
use Prim.Native.Char.{code}
use Rattle.basis.specs.Choice.{pick}
use Rattle.value.specs.Bounds.{hour_minutes}
use Rattle.value.specs.Clocks.{clock_of}
use Rattle.value.specs.Rows.{layout_of}
use Rattle.value.specs.declared.Offset.{Offset}
use Rattle.value.specs.declared.Offset.TheVariants.{East, West}
use Rattle.value.specs.declared.DateTime.{DateTime}
use Rattle.value.specs.declared.Kind.{Kind}
use Rattle.numerals.specs.Writing.{digits, fraction_text}
use Rattle.text_scan.specs.Scanning.{is_pair, year_digits, clock_fields}

abbrev pub hhmm : ℕ → List ℕ
hhmm n = digits 2 (n / hour_minutes) ++ (code ":" ∷ digits 2 (n % hour_minutes))

abbrev pub offset_text : Offset → List ℕ
offset_text (East n) = pick (eqb n 0) (code "Z" ∷ []) (code "+" ∷ hhmm n)
offset_text (West n) = code "-" ∷ hhmm n

abbrev pub zone_text : Option Offset → List ℕ
zone_text None = []
zone_text (Some o) = offset_text o

-- the number of a part of two digits
unfoldable pub pair_of : ℕ → DateTime → ℕ
pair_of p d =
    pick (eqb p (code "M")) d.month
    (pick (eqb p (code "D")) d.day
    (pick (eqb p (code "h")) (clock_fields (clock_of d)).hour (pick (eqb p (code "m")) (clock_fields (clock_of d)).minute (clock_fields (clock_of d)).second)))

unfoldable pub part_text : ℕ → DateTime → List ℕ
part_text p d =
    pick (eqb p (code "Y")) (digits year_digits d.year)
    (pick (eqb p (code "f")) (fraction_text (clock_fields (clock_of d)).part)
    (pick (eqb p (code "z")) (zone_text d.zone) (pick (is_pair p) (digits 2 (pair_of p d)) (p ∷ []))))

unfoldable pub layout_text : List ℕ → DateTime → List ℕ
layout_text [] d = []
layout_text (p ∷ ps) d = part_text p d ++ layout_text ps d

abbrev pub kind_text : Kind → DateTime → List ℕ
kind_text k d = layout_text (layout_of k) d
