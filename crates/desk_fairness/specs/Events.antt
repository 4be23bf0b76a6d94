-- A course of events at a desk: what is asked of it in order, each call being given the desk as the one before handed it back, and the
-- answers that one ticket gets. Refused calls are events like others.
use Rattle.std.specs.Prelude.{◌≡◌, List, [], ◌∷◌, ℕ, suc, eqb}
use Rattle.basis.specs.Choice.{pick}
use Rattle.basis.specs.Answer.{Answer, gives, refuses_for}
use Rattle.desk_seat.specs.Files.{Files}
use Rattle.desk_seat.specs.Request.{Request}
use Rattle.desk_seat.specs.Answers.{Turned, ticket_of}
use Rattle.desk.specs.Desk.{open_of, close_of, turn_of}
use Rattle.desk.specs.declared.Desk.{Desk}

pub data Event : Type 0 where
  opens : Request → Event
  closes : ℕ → Event
  turns : Event

-- the desk after an event, every turn being over the files f
abbrev pub after : Files → Desk → Event → Desk
after f d (opens r) = (open_of r d).desk
after f d (closes ticket) = (close_of ticket d).desk
after f d turns = (turn_of f d).desk

-- the desk after a course of events
unfoldable pub after_all : Files → Desk → List Event → Desk
after_all f d [] = d
after_all f d (e ∷ es) = after_all f (after f d e) es

-- an answer before others, where it names the ticket k
abbrev pub mine : ℕ → Answer Turned → List Turned → List Turned
mine k (gives a) others = pick (eqb (ticket_of a) k) (a ∷ others) others
mine k (refuses_for r) others = others

-- the answers that ticket k gets over a course of events
unfoldable pub answers_of : ℕ → Files → Desk → List Event → List Turned
answers_of k f d [] = []
answers_of k f d (opens r ∷ es) = answers_of k f (open_of r d).desk es
answers_of k f d (closes ticket ∷ es) = answers_of k f (close_of ticket d).desk es
answers_of k f d (turns ∷ es) = mine k (turn_of f d).answer (answers_of k f (turn_of f d).desk es)

-- how many turns a course has
unfoldable pub turn_count : List Event → ℕ
turn_count [] = 0
turn_count (opens r ∷ es) = turn_count es
turn_count (closes ticket ∷ es) = turn_count es
turn_count (turns ∷ es) = suc (turn_count es)

-- nobody closes ticket k
unfoldable pub Unclosed : ℕ → List Event → Type 0
Unclosed k [] = Unit {0}
Unclosed k (opens r ∷ es) = Unclosed k es
Unclosed k (closes ticket ∷ es) = (ticket ≡ k → ⊥) × Unclosed k es
Unclosed k (turns ∷ es) = Unclosed k es
