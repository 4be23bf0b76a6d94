-- Document 01, "Timetable, seats and turns": the sixteen seats, and which one is the first after another, going round.
use Rattle.std.specs.Prelude.{Bool, false, [], ℕ, ◌%◌, eqb, get_or}
use Rattle.std.specs.Bool.{beq}
use Rattle.basis.specs.Choice.{both}
use Rattle.desk_seat.specs.declared.Seat.{Seat}
use Rattle.desk.specs.Bounds.{seat_count}
use Rattle.desk.specs.Scan.{first_passing}
use Rattle.desk.specs.declared.Desk.{Desk}

-- the seat of a number; past the last seat nothing is held
abbrev pub seat_at : Desk → ℕ → Seat
seat_at d i =
    get_or d.seats i
    (record { held = false; ticket = 0; offset = 0; place = 0; hits = 0; unreadable = 0; condition_length = 0; condition = [] })

-- whether the seat of a number, counted round, is held, or free
abbrev pub held_is : Desk → Bool → ℕ → Bool
held_is d want i = beq (seat_at d (i % seat_count)).held want

-- the number of the first seat from one on, going round, that is held, or free; 16 further where there is none
abbrev pub first_from : Desk → Bool → ℕ → ℕ
first_from d want i = first_passing (held_is d want) i seat_count

-- whether the seat of a number is held with the ticket
abbrev pub has_ticket : Desk → ℕ → ℕ → Bool
has_ticket d ticket i = both (seat_at d i).held (eqb (seat_at d i).ticket ticket)

-- the number of the first held seat with the ticket; 16 where none has it
abbrev pub seat_of : Desk → ℕ → ℕ
seat_of d ticket = first_passing (has_ticket d ticket) 0 seat_count
