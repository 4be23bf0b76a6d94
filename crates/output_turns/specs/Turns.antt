-- Many turns at once: as long as the next answer's line fits in what is left of the lent room, and until Idle. A turn whose
-- line does not fit is not taken. Refusals 12, 11 as for a turn, then 15 where the first line does not fit.
use Rattle.std.specs.Prelude.{◌≡◌, Bool, true, false, List, [], ◌++◌, ℕ, zero, suc, ◌+◌, ◌-◌, ◌≤◌, ◌<◌, leb, length, drop, Err, Ok, Result}
use Rattle.basis.specs.Choice.{pick}
use Rattle.basis.specs.Answer.{Reason, Answer, gives, refuses_for}
use Rattle.value.specs.Reasons.{reason_of}
use Rattle.value.specs.Refusals.{wrong_timetable, not_sound, no_room}
use Rattle.desk_seat.specs.Files.{Files}
use Rattle.desk_seat.specs.Answers.{Turned, idle, hit_at, miss_at, unreadable_at, done_with}
use Rattle.desk.specs.Answers.{After}
use Rattle.desk.specs.Soundness.{sound_of}
use Rattle.desk.specs.Desk.{refused, have_lengths, turn_of}
use Rattle.desk.specs.declared.Desk.{Desk}
use Rattle.output_lines.specs.Text.{turn_line}
use Rattle.output_turns.specs.declared.WrittenTurns.{WrittenTurns}
use Rattle.output_turns.specs.declared.AfterTurns.{AfterTurns}
use Rattle.value.specs.declared.Refusal.{Refusal}

-- whether an answer is Idle
abbrev pub is_idle : Answer Turned → Bool
is_idle (gives idle) = true
is_idle (gives (hit_at k o p)) = false
is_idle (gives (miss_at k o p)) = false
is_idle (gives (unreadable_at k o r)) = false
is_idle (gives (done_with k h u)) = false
is_idle (refuses_for r) = false

-- some turns taken: the desk after them, the lines of their answers, and whether the last was Idle
pub record Taken : Type 0 where
  pub desk : Desk
  pub text : List ℕ
  pub idle : Bool

abbrev pub none : Desk → Taken
none d = record { desk = d; text = []; idle = false }

-- a line before those of the turns after it
abbrev pub onto_taken : List ℕ → Taken → Taken
onto_taken line k = record { desk = k.desk; text = line ++ k.text; idle = k.idle }

-- turns as long as the line of the next fits in what is left, at most n of them, and none after Idle
unfoldable pub at_most : ℕ → Files → Desk → ℕ → Taken
at_most zero f d left = none d
at_most (suc n) f d left =
    pick (leb (length (turn_line (turn_of f d).answer)) left)
    (onto_taken (turn_line (turn_of f d).answer)
    (pick (is_idle (turn_of f d).answer) (record { desk = (turn_of f d).desk; text = []; idle = true })
    (at_most n f (turn_of f d).desk (left - length (turn_line (turn_of f d).answer)))))
    (none d)

-- in a room there are no more lines than bytes
abbrev pub taken : Files → Desk → ℕ → Taken
taken f d size = at_most size f d size

-- what was written, where anything was
abbrev pub wrote : Taken → After WrittenTurns
wrote k = record { desk = k.desk; answer = gives (record { count = length k.text; idle = k.idle }) }

unfoldable pub turns_of : Files → Desk → ℕ → After WrittenTurns
turns_of f d size =
    pick (sound_of d)
    (pick (have_lengths f d)
    (pick (leb (length (turn_line (turn_of f d).answer)) size) (wrote (taken f d size)) (refused d no_room))
    (refused d wrong_timetable))
    (refused d not_sound)

-- the room afterwards: it starts with the lines and keeps its other bytes; a refusal leaves it as it was
unfoldable pub room_after : Files → Desk → List ℕ → List ℕ
room_after f d room =
    pick (sound_of d)
    (pick (have_lengths f d) ((taken f d (length room)).text ++ drop (length (taken f d (length room)).text) room) room)
    room

-- what the enum says
abbrev pub turns_meaning : Result WrittenTurns Refusal → Answer WrittenTurns
turns_meaning (Ok w) = gives w
turns_meaning (Err r) = refuses_for (reason_of r)

abbrev pub after_turns : AfterTurns → After WrittenTurns
after_turns r = record { desk = r.desk; answer = turns_meaning r.answer }

-- ---- that many single turns

-- the desk after n turns, and the lines of their answers
unfoldable pub desk_after : ℕ → Files → Desk → Desk
desk_after zero f d = d
desk_after (suc n) f d = desk_after n f (turn_of f d).desk

unfoldable pub lines_of_turns : ℕ → Files → Desk → List ℕ
lines_of_turns zero f d = []
lines_of_turns (suc n) f d = turn_line (turn_of f d).answer ++ lines_of_turns n f (turn_of f d).desk

-- the answer of the turn after n others
abbrev pub answer_after : ℕ → Files → Desk → Answer Turned
answer_after n f d = (turn_of f (desk_after n f d)).answer

-- Where something was written, what a caller sees is m single turns and one more, the last: the desk is that after them, and
-- the room starts with their lines and keeps its other bytes. No turn before the last was Idle, `idle` says whether the last
-- was, and where it was not, the next line would not have fitted.
pub record SingleTurns (f : Files) (d : Desk) (before : List ℕ) (w : WrittenTurns) (m : ℕ) : Type 0 where
  pub desk : (turns_of f d (length before)).desk ≡ desk_after (suc m) f d
  pub count : w.count ≡ length (lines_of_turns (suc m) f d)
  pub fits : w.count ≤ length before
  pub room : room_after f d before ≡ lines_of_turns (suc m) f d ++ drop w.count before
  pub earlier : (j : ℕ) → j < m → is_idle (answer_after j f d) ≡ false
  pub last : w.idle ≡ is_idle (answer_after m f d)
  pub stops : w.idle ≡ false → length before < w.count + length (turn_line (answer_after (suc m) f d))

abbrev pub TurnsAreSingle : Type 0
TurnsAreSingle =
    (f : Files) (d : Desk) (before : List ℕ) (w : WrittenTurns) → (turns_of f d (length before)).answer ≡ gives w
    → (m : ℕ) × SingleTurns f d before w m

-- a refusal leaves desk and room as they were
abbrev pub RefusedTurnsAlterNothing : Type 0
RefusedTurnsAlterNothing =
    (f : Files) (d : Desk) (room : List ℕ) (why : Reason) → (turns_of f d (length room)).answer ≡ refuses_for why
    → ((turns_of f d (length room)).desk ≡ d) × (room_after f d room ≡ room)
