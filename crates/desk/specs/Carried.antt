-- Carried: what the searches of the seats hand to the calls. No promise to a caller rests on it: what is looked for is `first_from` and
-- `seat_of` of Seats.antt.
use Rattle.std.specs.Prelude.{true, false, ℕ, ◌+◌, ◌%◌, ltb, Option, Some, None}
use Rattle.basis.specs.Choice.{pick}
use Rattle.desk.specs.Bounds.{seat_count}
use Rattle.desk.specs.Seats.{first_from, seat_of}
use Rattle.desk.specs.declared.Desk.{Desk}

-- a seat's number, where it is one
abbrev pub seat_numbered : ℕ → Option ℕ
seat_numbered i = pick (ltb i seat_count) (Some i) None

-- the number of the lowest free seat
abbrev pub free_found : Desk → Option ℕ
free_found d = seat_numbered (first_from d false 0)

-- the number of the first held seat with the ticket
abbrev pub ticket_found : Desk → ℕ → Option ℕ
ticket_found d ticket = seat_numbered (seat_of d ticket)

-- the number of the first held seat after the last served, going round
abbrev pub held_found : Desk → Option ℕ
held_found d =
    pick (ltb (first_from d true (d.last_served + 1)) (d.last_served + 1 + seat_count))
    (Some (first_from d true (d.last_served + 1) % seat_count))
    None
