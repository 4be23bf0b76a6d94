-- Carried: what the code's answers say of the parts of a text, what is kept of a year's number, and how wide the parts
-- of a layout are. No promise to a caller rests on it: the parts of a text (Scanning.antt) have all of the number, and
-- how long a text can be is proved of the text itself (`text_within` in crate `text`).
use Rattle.std.specs.Prelude.{Bool, true, false, List, [], ◌∷◌, ℕ, suc, ◌+◌, min, eqb, Option, Some, None, Result, Ok, Err}
use Prim.Native.Char.{code}
use Rattle.basis.specs.Choice.{pick}
use Rattle.value.specs.Bounds.{max_year}
use Rattle.numerals.specs.Reading.{fraction_digits}
use Rattle.text_scan.specs.Scanning.{Scan, Pair, Year, is_pair, year_digits}
use Rattle.text_scan.specs.declared.FoundParts.{FoundParts}

-- two digits that were found, or none, and the offset that is reached; and so a year
abbrev pub pair_in : Option ℕ → ℕ → Pair
pair_in (Some n) i = record { value = n; at = i; good = true }
pair_in None i = record { value = 0; at = i; good = false }

abbrev pub year_in : Option ℕ → ℕ → Year
year_in (Some n) i = record { value = n; at = i; good = true }
year_in None i = record { value = 0; at = i; good = false }

-- parts that were found, and whether the last that was looked for is there
abbrev pub scan : Bool → FoundParts → Scan
scan found t = record { date = t.date; clock = t.clock; zone = t.zone; at = t.at; good = found }

abbrev pub scan_in : Result FoundParts FoundParts → Scan
scan_in (Ok t) = scan true t
scan_in (Err t) = scan false t

-- no more than one above the greatest year
abbrev pub capped : ℕ → ℕ
capped n = min (suc max_year) n

-- a sign with hh:mm
abbrev pub signed_width : ℕ
signed_width = 6

-- how wide a part can be
unfoldable pub width : ℕ → ℕ
width p =
    pick (eqb p (code "Y")) year_digits (pick (eqb p (code "f")) (1 + fraction_digits) (pick (eqb p (code "z")) signed_width (pick (is_pair p) 2 1)))

unfoldable pub widths : List ℕ → ℕ
widths [] = 0
widths (p ∷ ps) = width p + widths ps
