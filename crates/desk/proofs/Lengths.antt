-- That the files have the desk's lengths, read both ways.
use mathlib.Core.Path.{◌≡◌}
use mathlib.Core.Bool.{true, false}
use borrow.Author.Tests.{eq-eqb, ne_eqb, eqb-true, eqb-false}
use lib.ListN.{length}
use Rattle.desk_seat.specs.Files.{Files}
use Rattle.desk.specs.Desk.{have_lengths}
use Rattle.desk.specs.declared.Desk.{Desk}

module _ (f : Files) (d : Desk) where
  pub lengths_same : have_lengths f d ≡ true → length f.timetable ≡ d.timetable_length
  lengths_same h = eqb-true _ _ h

  pub lengths_other : have_lengths f d ≡ false → length f.timetable ≡ d.timetable_length → ⊥
  lengths_other h = eqb-false _ _ h

  pub same_lengths : length f.timetable ≡ d.timetable_length → have_lengths f d ≡ true
  same_lengths e = eq-eqb _ _ e

  pub other_lengths : (length f.timetable ≡ d.timetable_length → ⊥) → have_lengths f d ≡ false
  other_lengths e = ne_eqb _ _ e
