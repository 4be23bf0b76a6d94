-- What lasts over any course of events, refused ones too: a sound desk stays sound, and no ticket is issued twice. And of each
-- single call: another query's opening, closing or answer does not alter the seat of this one.
use Rattle.std.specs.Prelude.{◌≡◌, true, List, ℕ, ◌<◌, length}
use Rattle.basis.specs.Answer.{gives}
use Rattle.desk_seat.specs.Files.{Files}
use Rattle.desk_seat.specs.Request.{Request}
use Rattle.desk_seat.specs.Answers.{Turned, ticket_of}
use Rattle.desk.specs.Bounds.{seat_count}
use Rattle.desk.specs.Seats.{seat_at}
use Rattle.desk.specs.Soundness.{sound_of}
use Rattle.desk.specs.Desk.{open_of, close_of, turn_of}
use Rattle.desk.specs.declared.Desk.{Desk}
use Rattle.desk_fairness.specs.Events.{Event, after_all}

abbrev pub SoundLasts : Type 0
SoundLasts =
    (f : Files) (d : Desk) (es : List Event) → length d.seats ≡ seat_count → sound_of d ≡ true → sound_of (after_all f d es) ≡ true

-- a ticket given later is greater
abbrev pub TicketsOnce : Type 0
TicketsOnce =
    (f : Files) (r later : Request) (d : Desk) (es : List Event) (k j : ℕ)
    → (open_of r d).answer ≡ gives k
    → (open_of later (after_all f (open_of r d).desk es)).answer ≡ gives j
    → k < j

-- seat number i is held by a query
pub record Seated (d : Desk) (i : ℕ) : Type 0 where
  pub desk : length d.seats ≡ seat_count
  pub sound : sound_of d ≡ true
  pub among : i < seat_count
  pub held : (seat_at d i).held ≡ true

pub record Untouched (d : Desk) (i : ℕ) : Type 0 where
  pub by_opening : (r : Request) → seat_at (open_of r d).desk i ≡ seat_at d i
  pub by_closing : (j : ℕ) → ((seat_at d i).ticket ≡ j → ⊥) → seat_at (close_of j d).desk i ≡ seat_at d i
  pub by_answers : (f : Files) (a : Turned) → (turn_of f d).answer ≡ gives a → (ticket_of a ≡ (seat_at d i).ticket → ⊥)
      → seat_at (turn_of f d).desk i ≡ seat_at d i

abbrev pub OthersUntouched : Type 0
OthersUntouched = (d : Desk) (i : ℕ) → Seated d i → Untouched d i
