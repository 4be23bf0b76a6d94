-- docs/LINES.md, "Hostile desks": the desk after `set` and `seat`. All but what is named stays as it is.
use Rattle.std.specs.Prelude.{List, ◌++◌, ℕ, ◌-◌, ltb, leb, length, set, replicate}
use Rattle.basis.specs.Choice.{pick}
use Rattle.desk_seat.specs.Bounds.{condition_room}
use Rattle.desk_seat.specs.declared.Seat.{Seat}
use Rattle.desk.specs.Bounds.{seat_count}
use Rattle.desk.specs.Seats.{seat_at}
use Rattle.desk.specs.declared.Desk.{Desk}
use Rattle.hostile.specs.declared.DeskNumber.{DeskNumber}
use Rattle.hostile.specs.declared.DeskNumber.TheVariants as D
use Rattle.hostile.specs.declared.SeatNumber.{SeatNumber}
use Rattle.hostile.specs.declared.SeatNumber.TheVariants as S

-- `set→NAME→N`: "the desk's number of that name becomes N"
abbrev pub desk_with : Desk → DeskNumber → Desk
desk_with d (D.LastServed n) = record { seats = d.seats; last_served = n; timetable_length = d.timetable_length; issued = d.issued }
desk_with d (D.Length n) = record { seats = d.seats; last_served = d.last_served; timetable_length = n; issued = d.issued }
desk_with d (D.Issued n) = record { seats = d.seats; last_served = d.last_served; timetable_length = d.timetable_length; issued = n }

-- `seat→I→NAME→N`: "that number of the seat numbered I becomes N"
abbrev pub seat_with : Seat → SeatNumber → Seat
seat_with s (S.Held h) = record { held = h; ticket = s.ticket; offset = s.offset; place = s.place; hits = s.hits; unreadable = s.unreadable; condition_length = s.condition_length; condition = s.condition }
seat_with s (S.Ticket n) = record { held = s.held; ticket = n; offset = s.offset; place = s.place; hits = s.hits; unreadable = s.unreadable; condition_length = s.condition_length; condition = s.condition }
seat_with s (S.Offset n) = record { held = s.held; ticket = s.ticket; offset = n; place = s.place; hits = s.hits; unreadable = s.unreadable; condition_length = s.condition_length; condition = s.condition }
seat_with s (S.Hits n) = record { held = s.held; ticket = s.ticket; offset = s.offset; place = s.place; hits = n; unreadable = s.unreadable; condition_length = s.condition_length; condition = s.condition }
seat_with s (S.Unreadable n) = record { held = s.held; ticket = s.ticket; offset = s.offset; place = s.place; hits = s.hits; unreadable = n; condition_length = s.condition_length; condition = s.condition }
seat_with s (S.Place n) = record { held = s.held; ticket = s.ticket; offset = s.offset; place = n; hits = s.hits; unreadable = s.unreadable; condition_length = s.condition_length; condition = s.condition }
seat_with s (S.ConditionLength n) = record { held = s.held; ticket = s.ticket; offset = s.offset; place = s.place; hits = s.hits; unreadable = s.unreadable; condition_length = n; condition = s.condition }

-- `seat→I→condition→TEXT`: "The seat's bytes become TEXT with zeros after it; no other number of the seat alters"
abbrev pub condition_with : Seat → List ℕ → Seat
condition_with s text =
    pick (leb (length text) condition_room)
    (record { held = s.held; ticket = s.ticket; offset = s.offset; place = s.place; hits = s.hits; unreadable = s.unreadable; condition_length = s.condition_length; condition = text ++ replicate (condition_room - length text) 0 })
    s

-- the desk with this seat as number `index`; a number past the last alters nothing
abbrev pub with_seat : Desk → ℕ → Seat → Desk
with_seat d index s =
    pick (ltb index seat_count)
    (record { seats = set d.seats index s; last_served = d.last_served; timetable_length = d.timetable_length; issued = d.issued })
    d

abbrev pub number_set : Desk → ℕ → SeatNumber → Desk
number_set d index number = with_seat d index (seat_with (seat_at d index) number)

abbrev pub condition_set : Desk → ℕ → List ℕ → Desk
condition_set d index text = with_seat d index (condition_with (seat_at d index) text)
