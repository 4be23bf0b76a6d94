-- Document 01, "Writing text" and refusal 15, with document 02's nine digits, by computation: the longest text has 35
-- bytes. A room of one byte less keeps every byte; one that just fits is filled; of a longer one the bytes after the
-- text stay.
use Rattle.std.specs.Prelude.{Some}
use mathlib.Core.Path.{◌≡◌, refl}
use mathlib.Core.List.{List, ◌++◌}
use Prim.Native.Nat.{ℕ}
use lib.ListN.{replicate}
use Rattle.basis.specs.Choice.{both, every}
use Rattle.basis.specs.Answer.{gives, refuses}
use Rattle.basis.specs.Letters.{bytes}
use Rattle.value.specs.Bounds.{max_year, max_zone}
use Rattle.value.specs.Carried.{max_clock}
use Rattle.value.specs.Clocks.{clock_of, at_clock, same_clock}
use Rattle.value.specs.Rows.{is_moment, has, of_kind}
use Rattle.value.specs.Values.{ok_date, ok_offset, ok_zone, ok_time_part, ok_date_time}
use Rattle.value.specs.Kinds.{ok_value}
use Rattle.value.specs.declared.Offset.TheVariants.{East}
use Rattle.value.specs.declared.Value.{Value}
use Rattle.value.specs.declared.Kind.TheVariants as KV
use Rattle.value.specs.declared.Value.TheVariants as VV
use Rattle.numerals.specs.Writing.{digits, kept_digits, fraction_text}
use Rattle.text_scan.specs.Scanning.{is_pair}
use Rattle.text_layouts.specs.Writing.{layout_text, part_text, pair_of}
use Rattle.text.specs.Writing.{text_of, written, after_write}

abbrev last : Value
last = VV.Moment KV.DateTime (at_clock (record { year = max_year; month = 12; day = 31 }) max_clock (Some (East max_zone)))

abbrev text : List ℕ
text = bytes "9999-12-31T23:59:59.999999999+14:00"

-- a room in which other bytes stand
abbrev room : ℕ → List ℕ
room n = replicate n 7

one_byte_less : (written last 34 ≡ refuses 15) × (after_write last (room 34) ≡ room 34)
unfolding written after_write text_of layout_text part_text pair_of is_pair digits kept_digits fraction_text ok_value is_moment of_kind same_clock has ok_date_time ok_date ok_time_part ok_zone ok_offset clock_of both every
one_byte_less = (refl, refl)

just_fits : (written last 35 ≡ gives 35) × (after_write last (room 35) ≡ text)
unfolding written after_write text_of layout_text part_text pair_of is_pair digits kept_digits fraction_text ok_value is_moment of_kind same_clock has ok_date_time ok_date ok_time_part ok_zone ok_offset clock_of both every
just_fits = (refl, refl)

bytes_after_stay : (written last 37 ≡ gives 35) × (after_write last (room 37) ≡ text ++ room 2)
unfolding written after_write text_of layout_text part_text pair_of is_pair digits kept_digits fraction_text ok_value is_moment of_kind same_clock has ok_date_time ok_date ok_time_part ok_zone ok_offset clock_of both every
bytes_after_stay = (refl, refl)
