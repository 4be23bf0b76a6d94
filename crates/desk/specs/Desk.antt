-- Document 01, "Timetable, seats and turns": a fresh desk, Open, Close and Turn, with the orders of "Refusal numbers".
-- A refused call hands back the desk it got.
use Rattle.std.specs.Prelude.{Bool, true, false, ℕ, ◌+◌, ◌-◌, ◌%◌, ltb, leb, eqb, length, set, replicate}
use Rattle.basis.specs.Choice.{pick}
use Rattle.basis.specs.Answer.{Reason, Answer, gives, refuses_for, only_number}
use Rattle.value.specs.Refusals.{no_seat, wrong_timetable, not_sound, no_ticket, no_more_tickets}
use Rattle.desk_seat.specs.Files.{Files}
use Rattle.desk_seat.specs.Request.{Request}
use Rattle.desk_seat.specs.Bounds.{max_timetable}
use Rattle.desk_seat.specs.Conditions.{check_of}
use Rattle.desk_seat.specs.Answers.{Turned, idle}
use Rattle.desk_seat.specs.Seat.{free_seat, seat_for}
use Rattle.desk_seat.specs.Serving.{Step, serve_of}
use Rattle.desk.specs.Bounds.{seat_count, last_ticket}
use Rattle.desk.specs.Answers.{After}
use Rattle.desk.specs.Seats.{seat_at, first_from, seat_of}
use Rattle.desk.specs.Soundness.{sound_of}
use Rattle.desk.specs.declared.Desk.{Desk}

-- the desk as it was, and a refusal
abbrev pub refused_for : {A : Type 0} → Desk → Reason → After A
refused_for d r = record { desk = d; answer = refuses_for r }

abbrev pub refused : {A : Type 0} → Desk → ℕ → After A
refused d n = refused_for d (only_number n)

-- ---- a fresh desk

-- all seats free, and the last one counts as last served
abbrev pub fresh_desk : ℕ → Desk
fresh_desk long =
    record { seats = replicate seat_count free_seat; last_served = seat_count - 1; timetable_length = long; issued = 0 }

-- "a refused fresh desk is no desk": one fixed record that is not sound
abbrev pub no_desk : Desk
no_desk = record { seats = replicate seat_count free_seat; last_served = seat_count; timetable_length = 0; issued = 0 }

unfoldable pub fresh_of : ℕ → After (Unit {0})
fresh_of long =
    pick (leb long max_timetable) (record { desk = fresh_desk long; answer = gives tt }) (refused no_desk wrong_timetable)

-- for the lengths of these files
abbrev pub fresh_for : Files → After (Unit {0})
fresh_for f = fresh_of (length f.timetable)

-- ---- open: 12, the number of the condition, 10, 14

-- the next ticket's query in the seat of a number
abbrev pub seated : Request → Desk → ℕ → Desk
seated r d i =
    record {
      seats = set d.seats i (seat_for (d.issued + 1) r);
      last_served = d.last_served;
      timetable_length = d.timetable_length;
      issued = d.issued + 1;
    }

-- after the checks of the condition: the lowest free seat, and the next ticket
abbrev pub open_checked : Request → Desk → Answer (Unit {0}) → After ℕ
open_checked r d (gives _) =
    pick (ltb (first_from d false 0) seat_count)
    (pick (ltb d.issued last_ticket)
    (record { desk = seated r d (first_from d false 0); answer = gives (d.issued + 1) })
    (refused d no_more_tickets))
    (refused d no_seat)
open_checked r d (refuses_for why) = refused_for d why

unfoldable pub open_of : Request → Desk → After ℕ
open_of r d = pick (sound_of d) (open_checked r d (check_of r.condition)) (refused d not_sound)

-- ---- close: 12, 13

-- the desk with the seat of a number free again
abbrev pub freed : Desk → ℕ → Desk
freed d i =
    record {
      seats = set d.seats i free_seat;
      last_served = d.last_served;
      timetable_length = d.timetable_length;
      issued = d.issued;
    }

unfoldable pub close_of : ℕ → Desk → After (Unit {0})
close_of ticket d =
    pick (sound_of d)
    (pick (ltb (seat_of d ticket) seat_count)
    (record { desk = freed d (seat_of d ticket); answer = gives tt })
    (refused d no_ticket))
    (refused d not_sound)

-- ---- turn: 12, 11, then the first held seat after the last served, going round, or Idle

-- a seat was served, and becomes last served
abbrev pub after_step : Desk → ℕ → Step → After Turned
after_step d i s =
    record {
      desk =
          record {
            seats = set d.seats i s.seat;
            last_served = i;
            timetable_length = d.timetable_length;
            issued = d.issued;
          };
      answer = gives s.answer;
    }

-- j is the number found, counted on past the last one: 17 after the last served where no seat is held
abbrev pub turn_at : Files → Desk → ℕ → After Turned
turn_at f d j =
    pick (ltb j (d.last_served + 1 + seat_count))
    (after_step d (j % seat_count) (serve_of f (seat_at d (j % seat_count))))
    (record { desk = d; answer = gives idle })

-- the turn of a sound desk over files of its lengths
unfoldable pub next_of : Files → Desk → After Turned
next_of f d = turn_at f d (first_from d true (d.last_served + 1))

-- the files have the lengths that the desk was made for
abbrev pub have_lengths : Files → Desk → Bool
have_lengths f d = eqb (length f.timetable) d.timetable_length

unfoldable pub turn_of : Files → Desk → After Turned
turn_of f d =
    pick (sound_of d)
    (pick (have_lengths f d) (next_of f d) (refused d wrong_timetable))
    (refused d not_sound)
