-- Demand 3 in full, clause by clause. Document 01 refers to it by its number; promise 3 of the README is its short form.
--
--   "Take a query the desk accepted. Suppose each later open, close or turn is given the desk as the one before handed it
--   back, every turn the same timetable of L lines, of the length the desk was made for, and nobody closes the query's
--   ticket. Then it has its last answer no later than the 16 x (L + 1)th turn after acceptance, and its answers are those it
--   would get with the desk to itself, line for line, only the ticket number aside, however many others open or close
--   queries meanwhile."
--
-- Document 02, b: "In demand 3, L is now the number of turns the lines stand for: one for a plain, bad or empty_run line, else its
-- occurrences." Line for line is then case for case.
--
-- The theorems are `demand3`, `demand3_lines`, `answers_and_done`, `demand3_any_time`, `demand3_in_time` and `lone_query` (proofs/). In
-- all of them f is what the turns read, r what was asked of Open, d the desk that was asked, k the ticket that it gave;
-- `(rest : List Turned) × P` reads: there is such a list with P.
use Rattle.std.specs.Prelude.{◌≡◌, true, false, List, [], ◌∷◌, ◌++◌, map, ℕ, suc, ◌+◌, ◌*◌, ◌≤◌, ◌<◌, length, take, replicate}
use Rattle.basis.specs.Answer.{gives}
use Rattle.timetable.specs.Lines.{Line, offset_lines}
use Rattle.desk_seat.specs.Files.{Files}
use Rattle.desk_seat.specs.Request.{Request}
use Rattle.run_cases.specs.Cases.{Case}
use Rattle.desk_seat.specs.Conditions.{Result, hit, miss, unreadable}
use Rattle.desk_seat.specs.Serving.{cases_of, case_result}
use Rattle.desk_seat.specs.Answers.{Turned, idle, hit_at, miss_at, unreadable_at, done_with}
use Rattle.desk_seat.specs.TurnsLeft.{turns_asked}
use Rattle.desk.specs.Bounds.{seat_count}
use Rattle.desk.specs.Seats.{seat_at}
use Rattle.desk.specs.Desk.{fresh_for, open_of, have_lengths}
use Rattle.desk.specs.declared.Desk.{Desk}
use Rattle.desk_fairness.specs.Events.{Event, turns, answers_of, turn_count, Unclosed}

-- "a query the desk accepted": d, a desk of 16 seats, was asked to open r and gave the ticket k.
-- "every turn the same timetable .., of the length the desk was made for": the turns are over f.
pub record Query (f : Files) (r : Request) (d : Desk) (k : ℕ) : Type 0 where
  pub desk : length d.seats ≡ seat_count
  pub lengths : have_lengths f d ≡ true
  pub accepted : (open_of r d).answer ≡ gives k

-- "each later open, close or turn is given the desk as the one before handed it back": `es` is any course of events from
-- there, and these are the answers that the query gets in it
abbrev pub gets : Files → Request → Desk → ℕ → List Event → List Turned
gets f r d k es = answers_of k f (open_of r d).desk es

-- "the 16 x (L + 1)th turn": L, the turns that the timetable's lines stand for, is `turns_asked`
abbrev pub turns_for : Files → ℕ
turns_for f = seat_count * (turns_asked f + 1)

-- "nobody closes the query's ticket", and the 16 x (L + 1)th turn after acceptance has been taken
pub record Course (f : Files) (k : ℕ) (es : List Event) : Type 0 where
  pub unclosed : Unclosed k es
  pub taken : turns_for f ≤ turn_count es

-- ---- the first form: as with the desk to itself

-- "only the ticket number aside"
abbrev pub ticket_aside : Turned → Turned
ticket_aside idle = idle
ticket_aside (hit_at k o p) = hit_at 0 o p
ticket_aside (miss_at k o p) = miss_at 0 o p
ticket_aside (unreadable_at k o r) = unreadable_at 0 o r
ticket_aside (done_with k h u) = done_with 0 h u

-- "those it would get with the desk to itself": on a fresh desk for that timetable, which is asked to open this alone
abbrev pub alone : Files → Request → List Turned
alone f r = gets f r (fresh_for f).desk 1 (replicate (turns_for f) turns)

abbrev pub Demand3 : Type 0
Demand3 =
    (f : Files) (r : Request) (d : Desk) (k : ℕ) (es : List Event) → Query f r d k → Course f k es
    → map ticket_aside (gets f r d k es) ≡ map ticket_aside (alone f r)

-- ---- the second form: line for line, and within a line case for case

-- the answer to ticket k at a case: the condition's result there, with the line's offset and the place
abbrev pub answer_for : ℕ → ℕ → ℕ → Result → Turned
answer_for k offset place hit = hit_at k offset place
answer_for k offset place miss = miss_at k offset place
answer_for k offset place (unreadable r) = unreadable_at k offset r

-- the answers at the cases of a line, the first at a place, to a query with the condition c
unfoldable pub case_answers : ℕ → List ℕ → ℕ → ℕ → List Case → List Turned
case_answers k c offset place [] = []
case_answers k c offset place (x ∷ xs) = answer_for k offset place (case_result c x) ∷ case_answers k c offset (suc place) xs

-- the answers at some lines, at all that each stands for
unfoldable pub line_answers : ℕ → List ℕ → List Line → List Turned
line_answers k c [] = []
line_answers k c (l ∷ ls) = case_answers k c l.offset 0 (cases_of l.text) ++ line_answers k c ls

-- how many hits, and how many unreadable turns, a list of answers has
abbrev pub hit_in : Turned → ℕ
hit_in idle = 0
hit_in (hit_at k o p) = 1
hit_in (miss_at k o p) = 0
hit_in (unreadable_at k o r) = 0
hit_in (done_with k h u) = 0

abbrev pub unreadable_in : Turned → ℕ
unreadable_in idle = 0
unreadable_in (hit_at k o p) = 0
unreadable_in (miss_at k o p) = 0
unreadable_in (unreadable_at k o r) = 1
unreadable_in (done_with k h u) = 0

unfoldable pub how_many : (Turned → ℕ) → List Turned → ℕ
how_many count [] = 0
how_many count (a ∷ others) = count a + how_many count others

-- an answer for each case of each line of the timetable, in order
abbrev pub answers_in : ℕ → Files → Request → List Turned
answers_in k f r = line_answers k r.condition (offset_lines f.timetable)

-- then Done with the two counts of that list
abbrev pub expected : ℕ → Files → Request → List Turned
expected k f r = answers_in k f r ++ (done_with k (how_many hit_in (answers_in k f r)) (how_many unreadable_in (answers_in k f r)) ∷ [])

-- L is the number of turns that the lines stand for: the list has an answer for each of them, and Done
abbrev pub AnswersAndDone : Type 0
AnswersAndDone = (k : ℕ) (f : Files) (r : Request) → length (expected k f r) ≡ turns_asked f + 1

abbrev pub Demand3Lines : Type 0
Demand3Lines =
    (f : Files) (r : Request) (d : Desk) (k : ℕ) (es : List Event) → Query f r d k → Course f k es → gets f r d k es ≡ expected k f r

-- ---- at any earlier time the answers so far are a prefix of that list
abbrev pub Demand3AnyTime : Type 0
Demand3AnyTime =
    (f : Files) (r : Request) (d : Desk) (k : ℕ) (es : List Event) → Query f r d k → Unclosed k es
    → (rest : List Turned) × (gets f r d k es ++ rest ≡ expected k f r)

-- ---- each answer in its time: at the 16 x nth turn after acceptance at least n of its L + 1 answers are there
abbrev pub Demand3InTime : Type 0
Demand3InTime =
    (f : Files) (r : Request) (d : Desk) (k n : ℕ) (es : List Event) → Query f r d k → Unclosed k es → n ≤ turns_asked f + 1 → seat_count * n ≤ turn_count es
    → n ≤ length (gets f r d k es)

-- ---- a lone query is served at every turn: empty seats are passed over
abbrev pub LoneQuery : Type 0
LoneQuery =
    (f : Files) (r : Request) (d : Desk) (k n : ℕ) → Query f r d k → ((i : ℕ) → i < seat_count → (seat_at d i).held ≡ false)
    → gets f r d k (replicate n turns) ≡ take n (expected k f r)
