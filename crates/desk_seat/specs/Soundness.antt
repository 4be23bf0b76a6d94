-- Document 01, "Timetable, seats and turns", of a sound desk, what is asked of one seat alone: "held tickets are nonzero, ..
-- and not above the last issued; each held condition passes Open's checks; each held offset is at most the length; each held
-- seat's hits and unreadable lines together are at most its offset." Document 02, b: "A desk is sound only with places under 1,440, and
-- a seat's two counts are now at most 1,440 times its offset plus its place."
use Rattle.std.specs.Prelude.{Bool, [], ◌∷◌, ℕ, ◌+◌, ◌*◌, leb, ltb}
use Rattle.basis.specs.Choice.{every}
use Rattle.run_times.specs.Occurrences.{most_occurrences}
use Rattle.desk_seat.specs.Bounds.{condition_room}
use Rattle.desk_seat.specs.Conditions.{accepted}
use Rattle.desk_seat.specs.Seat.{condition_of}
use Rattle.desk_seat.specs.declared.Seat.{Seat}

-- a held seat by itself, where so many tickets are issued, over a timetable of a length. A stored condition length beyond
-- the seat's room is none that passes Open's checks
unfoldable pub seat_sound : ℕ → ℕ → Seat → Bool
seat_sound issued long s =
    every
    (leb 1 s.ticket
    ∷ leb s.ticket issued
    ∷ leb s.condition_length condition_room
    ∷ accepted (condition_of s)
    ∷ leb s.offset long
    ∷ ltb s.place most_occurrences
    ∷ leb (s.hits + s.unreadable) (most_occurrences * s.offset + s.place)
    ∷ [])
