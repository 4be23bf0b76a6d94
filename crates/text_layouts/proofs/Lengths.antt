-- No text of a kind is longer than the longest, and one is as long.
use Rattle.std.specs.Prelude.{Some}
use mathlib.Core.Path.{◌≡◌, refl}
use mathlib.Core.List.{List, [], ◌∷◌}
use Prim.Native.Nat.{ℕ, ◌≤◌}
use native.Mathlib.Omega.{arith}
use lib.ListN.{length, length-append}
use mathlib.Core.Bool.{true}
use Rattle.basis.specs.Choice.{both, every}
use Rattle.basis.specs.Letters.{bytes}
use Rattle.value.specs.Bounds.{max_year, max_zone}
use Rattle.value.specs.Carried.{max_clock}
use Rattle.value.specs.Clocks.{clock_of, at_clock}
use Rattle.value.specs.Rows.{layout_of}
use Rattle.value.specs.Values.{ok_date, ok_offset, ok_zone, ok_time_part, ok_date_time}
use Rattle.value.specs.declared.Offset.TheVariants.{East}
use Rattle.value.specs.declared.DateTime.{DateTime}
use Rattle.value.specs.declared.Kind.{Kind}
use Rattle.value.specs.declared.Kind.TheVariants as KV
use Rattle.numerals.specs.Writing.{longest, digits, kept_digits, fraction_text}
use Rattle.text_scan.specs.Scanning.{is_pair}
use Rattle.text_scan.specs.Carried.{widths}
use Rattle.text_layouts.specs.Writing.{part_text, pair_of, layout_text, kind_text}
use Rattle.text_layouts.proofs.Pieces.{text_short, wide}

by_widths : (ps : List ℕ) (d : DateTime) → length (layout_text ps d) ≤ widths ps
unfolding layout_text widths
by_widths [] d = omega arith
by_widths (p ∷ ps) d = omega (arith, length-append (part_text p d) (layout_text ps d), text_short p d, by_widths ps d)

pub text_fits : (k : Kind) (d : DateTime) → length (kind_text k d) ≤ longest
text_fits k d = omega (arith, by_widths (layout_of k) d, wide k)

-- 9999-12-31T23:59:59.999999999+14:00
abbrev last : DateTime
last = at_clock (record { year = max_year; month = 12; day = 31 }) max_clock (Some (East max_zone))

pub last_text : kind_text KV.DateTime last ≡ bytes "9999-12-31T23:59:59.999999999+14:00"
unfolding layout_text part_text pair_of is_pair digits kept_digits fraction_text clock_of
last_text = refl

-- it is within the bounds, and as long as the longest
pub longest_reached : (ok_date_time last ≡ true) × (length (kind_text KV.DateTime last) ≡ longest)
unfolding ok_date_time ok_date ok_time_part ok_zone ok_offset every both layout_text part_text pair_of is_pair digits kept_digits fraction_text clock_of
longest_reached = (refl, refl)
