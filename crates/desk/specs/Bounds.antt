-- Document 01, "Timetable, seats and turns" and "Refusal numbers": the bounds of the desk.
use Rattle.std.specs.Prelude.{ℕ}

-- the desk has 16 seats
abbrev pub seat_count : ℕ
seat_count = 16

-- after ticket 4,294,967,295 there is none
abbrev pub last_ticket : ℕ
last_ticket = 4_294_967_295
