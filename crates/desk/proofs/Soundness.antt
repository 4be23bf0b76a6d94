-- What a sound desk tells: of last served, of its length, of each held seat.
use mathlib.Core.Path.{◌≡◌}
use mathlib.Core.Bool.{true}
use Prim.Native.Nat.{ℕ, ◌≤◌, ◌<◌}
use borrow.Author.Tests.{leb-true, ltb-true}
use lib.Dec.{eqb}
use Rattle.basis.proofs.Tests.{both_right}
use Rattle.desk_seat.specs.Bounds.{max_timetable}
use Rattle.desk_seat.specs.Soundness.{seat_sound}
use Rattle.desk_seat.proofs.Soundness.{every_at}
use Rattle.desk.specs.Bounds.{seat_count}
use Rattle.desk.specs.Seats.{seat_at, seat_of}
use Rattle.desk.specs.Soundness.{sound_at, sound_of}
use Rattle.desk.specs.declared.Desk.{Desk}
use Rattle.desk.proofs.Scans.{all_at}

module _ (d : Desk) (h : sound_of d ≡ true) where
  pub sound_last : d.last_served < seat_count
  unfolding sound_of
  sound_last = ltb-true _ _ (every_at _ 0 h)

  pub sound_length : d.timetable_length ≤ max_timetable
  unfolding sound_of
  sound_length = leb-true _ _ (every_at _ 1 h)

  pub sound_at_lem : (i : ℕ) → i < seat_count → sound_at d i ≡ true
  unfolding sound_of
  sound_at_lem i l = all_at (sound_at d) seat_count i l (every_at _ 2 h)

  pub sound_seat : (i : ℕ) → i < seat_count → (seat_at d i).held ≡ true → seat_sound d.issued d.timetable_length (seat_at d i) ≡ true
  unfolding sound_at
  sound_seat i l e =
      both_right (eqb (seat_of d (seat_at d i).ticket) i) (seat_sound d.issued d.timetable_length (seat_at d i)) (rw e at (sound_at_lem i l))
