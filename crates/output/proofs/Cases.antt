-- Worked cases of the output, by computing it: nothing to read gives `idle` alone, and the two refusals are their lines.
use mathlib.Core.Path.{◌≡◌, refl, ◌∙◌}
use mathlib.Core.List.{List, [], ◌∷◌}
use Prim.Native.Nat.{ℕ, ◌≤◌, ◌<◌}
use lib.ListN.{length}
use Rattle.basis.specs.Choice.{both, every}
use Rattle.basis.specs.Letters.{bytes}
use Rattle.timetable.specs.Parted.{parted}
use Rattle.timetable.specs.Lines.{less_empty_last, lines_of, with_offsets, lines_from, offset_lines}
use Rattle.numerals.specs.Writing.{shortest, decimal}
use Rattle.desk_seat.specs.Bounds.{max_timetable}
use Rattle.desk_seat.specs.Files.{Files, over}
use Rattle.desk.specs.Scan.{first_passing, all}
use Rattle.desk.specs.Soundness.{sound_at, sound_of}
use Rattle.desk.specs.Desk.{fresh_of, next_of, turn_of}
use Rattle.output_lines.specs.Text.{numbers, line_with}
use Rattle.output_pieces.specs.Bounds.{max_input}
use Rattle.output_pieces.specs.Pieces.{opened_all}
use Rattle.output.specs.Output.{open_lines, turn_lines, output_of}
use Rattle.output.proofs.Telling.{long_timetable_told, long_input_told}

-- nothing to read: `idle` and byte 10
pub nothing_read : output_of (over []) [] ≡ bytes "idle\n"
unfolding both every parted less_empty_last lines_of with_offsets lines_from offset_lines first_passing all sound_at sound_of fresh_of next_of turn_of numbers line_with opened_all open_lines turn_lines output_of
nothing_read = refl

-- `refused`, a tab, 11 and byte 10
eleven : line_with (bytes "refused") (11 ∷ []) ≡ bytes "refused\t11\n"
unfolding numbers line_with shortest decimal
eleven = refl

seven : line_with (bytes "refused") (7 ∷ []) ≡ bytes "refused\t7\n"
unfolding numbers line_with shortest decimal
seven = refl

pub too_long : (f : Files) (input : List ℕ) → max_timetable < length f.timetable → output_of f input ≡ bytes "refused\t11\n"
too_long f input l = long_timetable_told f input l ∙ eleven

pub too_much : (f : Files) (input : List ℕ) → length f.timetable ≤ max_timetable → max_input < length input → output_of f input ≡ bytes "refused\t7\n"
too_much f input h l = long_input_told f input h l ∙ seven
