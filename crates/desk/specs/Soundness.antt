-- Document 01, "Timetable, seats and turns": "A desk is sound when: last served is under 16; the length is at most 65,536;
-- held tickets are nonzero, different and not above the last issued; each held condition passes Open's checks; each held
-- offset is at most the length; ..". By document 02, b, also "only with places under 1,440", and with its bound on a seat's two counts.
-- What is asked of one seat alone is `seat_sound` of the crate `desk_seat`.
use Rattle.std.specs.Prelude.{Bool, true, [], ◌∷◌, ℕ, ltb, leb, eqb}
use Rattle.basis.specs.Choice.{pick, both, every}
use Rattle.desk_seat.specs.Bounds.{max_timetable}
use Rattle.desk_seat.specs.Soundness.{seat_sound}
use Rattle.desk.specs.Bounds.{seat_count}
use Rattle.desk.specs.Scan.{all}
use Rattle.desk.specs.Seats.{seat_at, seat_of}
use Rattle.desk.specs.declared.Desk.{Desk}

-- the seat of a number: where it is held, no held seat before it has its ticket, and it is sound by itself
unfoldable pub sound_at : Desk → ℕ → Bool
sound_at d i =
    pick (seat_at d i).held
    (both (eqb (seat_of d (seat_at d i).ticket) i) (seat_sound d.issued d.timetable_length (seat_at d i)))
    true

unfoldable pub sound_of : Desk → Bool
sound_of d = every (ltb d.last_served seat_count ∷ leb d.timetable_length max_timetable ∷ all (sound_at d) seat_count ∷ [])
