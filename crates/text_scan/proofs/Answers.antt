-- Answers that say the same scan are the same, so that a contract on the scan determines the answer.
use mathlib.Core.Path.{◌≡◌, refl, ap}
use mathlib.Core.Bool.{Bool, true, false}
use Rattle.std.specs.Prelude.{Err, Ok, Result}
use Rattle.text_scan.specs.Scanning.{Scan}
use Rattle.text_scan.specs.Carried.{scan_in}
use Rattle.text_scan.specs.declared.FoundParts.{FoundParts}

-- the answer that says a scan
abbrev found : Bool → FoundParts → Result FoundParts FoundParts
found true t = Ok t
found false t = Err t

abbrev parts_in : Scan → Result FoundParts FoundParts
parts_in t = found t.good (record { date = t.date; clock = t.clock; zone = t.zone; at = t.at })

scan_back : (a : Result FoundParts FoundParts) → parts_in (scan_in a) ≡ a
scan_back (Ok t) = refl
scan_back (Err t) = refl

pub scan_determined : (a b : Result FoundParts FoundParts) → scan_in a ≡ scan_in b → a ≡ b
scan_determined a b e = cc (ap parts_in e, scan_back a, scan_back b)
