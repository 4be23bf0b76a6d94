-- Document 01, "Timetable, seats and turns" and "Refusal numbers", and document 02, b: what a turn answers, and what the enum says of it.
use Rattle.std.specs.Prelude.{ℕ}
use Rattle.basis.specs.Answer.{Reason, Answer, gives, refuses_for}
use Rattle.value.specs.Reasons.{reason_of}
use Rattle.desk_seat.specs.declared.TurnAnswer.{TurnAnswer}
use Rattle.desk_seat.specs.declared.TurnAnswer.TheVariants as TV

-- what a turn gives, the ticket first: "Done with the ticket, its hits and its unreadable lines", "Hit, Miss or
-- Unreadable (with a number), each with ticket and line offset", Idle; "Hit and Miss gain the seat's place"
pub data Turned : Type 0 where
  idle : Turned
  hit_at : ℕ → ℕ → ℕ → Turned
  miss_at : ℕ → ℕ → ℕ → Turned
  unreadable_at : ℕ → ℕ → Reason → Turned
  done_with : ℕ → ℕ → ℕ → Turned

-- the ticket that an answer names; 0, which is no ticket, where it names none
abbrev pub ticket_of : Turned → ℕ
ticket_of idle = 0
ticket_of (hit_at k o p) = k
ticket_of (miss_at k o p) = k
ticket_of (unreadable_at k o r) = k
ticket_of (done_with k h u) = k

-- document 01's number, or the values
abbrev pub turn_meaning : TurnAnswer → Answer Turned
turn_meaning TV.Idle = gives idle
turn_meaning (TV.Hit a) = gives (hit_at a.ticket a.offset a.place)
turn_meaning (TV.Miss a) = gives (miss_at a.ticket a.offset a.place)
turn_meaning (TV.Unreadable a r) = gives (unreadable_at a.ticket a.offset (reason_of r))
turn_meaning (TV.Done c) = gives (done_with c.ticket c.hits c.unreadable)
turn_meaning (TV.Refused r) = refuses_for (reason_of r)
