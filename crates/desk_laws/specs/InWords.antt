-- Document 01, "Timetable, seats and turns" and "Refusal numbers", in its own words. The definitions of the calls (crate
-- `desk`, Desk.antt) look for a seat by its number; here is said of the sixteen seats which one that is, and of each number
-- of the table that it is given exactly when the table says. The theorems are `fresh_in_words`, `open_in_words`,
-- `close_in_words`, `turn_in_words` and `refused_alters_nothing` (proofs/InWords.antt).
use Rattle.std.specs.Prelude.{◌≡◌, true, false, ℕ, ◌+◌, ◌%◌, ◌≤◌, ◌<◌, length}
use Rattle.basis.specs.Answer.{Reason, gives, refuses_for, refuses}
use Rattle.basis.specs.Exactly.{Exactly}
use Rattle.value.specs.Refusals.{no_seat, wrong_timetable, not_sound, no_ticket, no_more_tickets}
use Rattle.desk_seat.specs.Files.{Files}
use Rattle.desk_seat.specs.Request.{Request}
use Rattle.desk_seat.specs.Bounds.{max_timetable}
use Rattle.desk_seat.specs.Conditions.{accepted, check_of}
use Rattle.desk_seat.specs.Answers.{idle}
use Rattle.desk_seat.specs.Serving.{serve_of}
use Rattle.desk.specs.Bounds.{seat_count, last_ticket}
use Rattle.desk.specs.Answers.{After}
use Rattle.desk.specs.Seats.{seat_at}
use Rattle.desk.specs.Soundness.{sound_of}
use Rattle.desk.specs.Desk.{fresh_desk, no_desk, fresh_of, seated, open_of, freed, close_of, after_step, turn_of}
use Rattle.desk.specs.declared.Desk.{Desk}

-- ---- the sixteen seats

-- "all seats held"
abbrev pub AllHeld : Desk → Type 0
AllHeld d = (i : ℕ) → i < seat_count → (seat_at d i).held ≡ true

-- "with none held"
abbrev pub NoneHeld : Desk → Type 0
NoneHeld d = (i : ℕ) → i < seat_count → (seat_at d i).held ≡ false

-- some seat is free
abbrev pub SomeFree : Desk → Type 0
SomeFree d = (i : ℕ) × (i < seat_count) × ((seat_at d i).held ≡ false)

-- "no held seat has the ticket"
abbrev pub NoneHas : Desk → ℕ → Type 0
NoneHas d ticket = (i : ℕ) → i < seat_count → (seat_at d i).held ≡ true → (seat_at d i).ticket ≡ ticket → ⊥

-- "the lowest free seat" is number i
pub record LowestFree (d : Desk) (i : ℕ) : Type 0 where
  pub among : i < seat_count
  pub free : (seat_at d i).held ≡ false
  pub below : (j : ℕ) → j < i → (seat_at d j).held ≡ true

-- "the ticket's seat" is number i
pub record SeatOf (d : Desk) (ticket i : ℕ) : Type 0 where
  pub among : i < seat_count
  pub held : (seat_at d i).held ≡ true
  pub has : (seat_at d i).ticket ≡ ticket

-- the number n seats after the last served, going round
abbrev pub on_from : Desk → ℕ → ℕ
on_from d n = (d.last_served + n) % seat_count

-- "the first held seat after the last served, going round" is n seats after it: 1 to 16, since the round ends with the last
-- served seat itself
pub record NextHeld (d : Desk) (n : ℕ) : Type 0 where
  pub from : 1 ≤ n
  pub within : n ≤ seat_count
  pub held : (seat_at d (on_from d n)).held ≡ true
  pub passed : (m : ℕ) → 1 ≤ m → m < n → (seat_at d (on_from d m)).held ≡ false

-- ---- a fresh desk
pub record FreshInWords (long : ℕ) : Type 0 where
  -- 11: "timetable over 65,536"
  pub too_long : Exactly ((fresh_of long).answer ≡ refuses wrong_timetable) (max_timetable < long)
  -- else it is made
  pub made : long ≤ max_timetable → fresh_of long ≡ record { desk = fresh_desk long; answer = gives tt }

-- ---- open
pub record OpenInWords (r : Request) (d : Desk) : Type 0 where
  -- 12: "desk not sound"
  pub unsound : Exactly ((open_of r d).answer ≡ refuses not_sound) (sound_of d ≡ false)
  -- 7, 8, 9, or a literal's own number: that of the condition's checks, where the desk is sound
  pub own : (why : Reason) → check_of r.condition ≡ refuses_for why → Exactly ((open_of r d).answer ≡ refuses_for why) (sound_of d ≡ true)
  -- 10: "all seats held", where the desk is sound and the condition accepted
  pub full : Exactly ((open_of r d).answer ≡ refuses no_seat) ((sound_of d ≡ true) × (accepted r.condition ≡ true) × AllHeld d)
  -- 14: "ticket 4,294,967,295 was already issued", where besides a seat is free
  pub spent : Exactly ((open_of r d).answer ≡ refuses no_more_tickets)
      ((sound_of d ≡ true) × (accepted r.condition ≡ true) × SomeFree d × (last_ticket ≤ d.issued))
  -- else the lowest free seat is taken, with the next ticket
  pub takes : (i : ℕ) → sound_of d ≡ true → accepted r.condition ≡ true → LowestFree d i → d.issued < last_ticket
      → open_of r d ≡ record { desk = seated r d i; answer = gives (d.issued + 1) }

-- ---- close
pub record CloseInWords (ticket : ℕ) (d : Desk) : Type 0 where
  -- 12: "desk not sound"
  pub unsound : Exactly ((close_of ticket d).answer ≡ refuses not_sound) (sound_of d ≡ false)
  -- 13: "no held seat has the ticket", where the desk is sound
  pub nobody : Exactly ((close_of ticket d).answer ≡ refuses no_ticket) ((sound_of d ≡ true) × NoneHas d ticket)
  -- else the ticket's seat is freed
  pub frees : (i : ℕ) → sound_of d ≡ true → SeatOf d ticket i → close_of ticket d ≡ record { desk = freed d i; answer = gives tt }

-- ---- turn

-- a timetable "of the desk's length"
abbrev pub OfItsLength : Files → Desk → Type 0
OfItsLength f d = length f.timetable ≡ d.timetable_length

pub record TurnInWords (f : Files) (d : Desk) : Type 0 where
  -- 12: "desk not sound"
  pub unsound : Exactly ((turn_of f d).answer ≡ refuses not_sound) (sound_of d ≡ false)
  -- 11: timetable "not of the desk's length", where the desk is sound
  pub other_length : Exactly ((turn_of f d).answer ≡ refuses wrong_timetable)
      ((sound_of d ≡ true) × (OfItsLength f d → ⊥))
  -- "With none held it is Idle and nothing alters"
  pub nobody : Exactly ((turn_of f d).answer ≡ gives idle)
      ((sound_of d ≡ true) × OfItsLength f d × NoneHeld d)
  pub stays : (turn_of f d).answer ≡ gives idle → (turn_of f d).desk ≡ d
  -- else the first held seat after the last served is served, and becomes last served
  pub serves : (n : ℕ) → sound_of d ≡ true → OfItsLength f d → NextHeld d n
      → turn_of f d ≡ after_step d (on_from d n) (serve_of f (seat_at d (on_from d n)))

-- ---- "A refusal answers its number and no value; .. the desk comes back equal, and a refused fresh desk is no desk."

-- where the answer is a refusal, this desk is handed back
abbrev pub HandsBack : {A : Type 0} → Desk → After A → Type 0
HandsBack d r = (why : Reason) → r.answer ≡ refuses_for why → r.desk ≡ d

pub record RefusedAltersNothing : Type 0 where
  pub by_open : (r : Request) (d : Desk) → HandsBack d (open_of r d)
  pub by_close : (ticket : ℕ) (d : Desk) → HandsBack d (close_of ticket d)
  pub by_turn : (f : Files) (d : Desk) → HandsBack d (turn_of f d)
  pub by_fresh : (long : ℕ) → HandsBack no_desk (fresh_of long)
  pub unsound : sound_of no_desk ≡ false
