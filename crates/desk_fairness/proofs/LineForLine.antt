-- Line for line, and within a line case for case: the answers of a seat by itself are the results at the cases from its place on and at
-- those of the lines after it, and Done with its counts and those of these answers. An accepted query starts at offset 0 and place 0
-- with both counts 0.
use mathlib.Core.Path.{◌≡◌, refl, sym, ap, ◌∙◌}
use mathlib.Core.Bool.{true, false}
use mathlib.Core.List.{List, [], ◌∷◌, ◌++◌}
use mathlib.Core.Logic.{⊎_elim}
use Prim.Native.Nat.{ℕ, zero, suc, ◌+◌, ◌≤◌, ◌<◌}
use native.Mathlib.Nat.{add-zero, zero-add, add_assoc}
use native.Mathlib.Numerals.{add-one}
use native.Mathlib.Omega.{arith}
use borrow.Author.Tests.{lt-ltb, le-ltb, ltb-true}
use lib.Dec.{ltb}
use lib.ListN.{length, drop, drop_of_length-le}
use lib.Seq.{drop-cons, take-append_seam}
use Rattle.basis.specs.Choice.{pick}
use Rattle.value_instants.specs.Ticks.{utc}
use Rattle.timetable.specs.Lines.{lines_from, offset_lines, next_line, line_at}
use Rattle.timetable.proofs.Offsets.{line_or_end, line_offset, lines_next, lines_end}
use Rattle.run_cases.specs.Cases.{Case, miss_case, case_at}
use Rattle.run_cases.proofs.Lines.{stands_for_some}
use Rattle.run_cases.proofs.Places.{case_there}
use Rattle.desk_seat.specs.Files.{Files}
use Rattle.desk_seat.specs.Request.{Request}
use Rattle.desk_seat.specs.Conditions.{Result, hit, miss, unreadable}
use Rattle.desk_seat.specs.Answers.{Turned, done_with}
use Rattle.desk_seat.specs.Seat.{seat_for, condition_of}
use Rattle.desk_seat.specs.Serving.{has_line, cases_at, case_result, onward_from, seat_result, judged_as, serve_of}
use Rattle.desk_seat.specs.TurnsLeft.{turns_asked, turns_left}
use Rattle.desk_seat.specs.declared.Seat.{Seat}
use Rattle.desk_seat.specs.declared.Spot.{Spot}
use Rattle.desk_seat.proofs.Serving.{line_or_done, more_or_last, onward_more, onward_next, serve_line, serve_done}
use Rattle.desk_seat.proofs.TurnsLeft.{left_start, left_on, left_off}
use Rattle.desk_fairness.specs.Demand3.{answer_for, case_answers, line_answers, hit_in, unreadable_in, how_many, expected, Demand3Lines, AnswersAndDone}
use Rattle.desk_fairness.proofs.Fair.{serves, query_gets}

-- ---- the cases of a line from a place on: the one there, be it reached or not, and those after it
abbrev cases_from : List Case → ℕ → List Case
cases_from cs p = case_at cs p ∷ drop (suc p) cs

cases_all : (cs : List Case) → 1 ≤ length cs → cases_from cs 0 ≡ cs
cases_all cs h = rw (case_there cs 0 h) (sym (drop-cons cs 0 miss_case h))

cases_more : (cs : List Case) (p : ℕ) → suc p < length cs → drop (suc p) cs ≡ cases_from cs (suc p)
cases_more cs p h = rw (case_there cs (suc p) h) (drop-cons cs (suc p) miss_case h)

-- ---- the answers that are left at an offset and a place, to ticket k with the condition c
abbrev left_from : Files → ℕ → List ℕ → ℕ → ℕ → List Turned
left_from f k c o p =
    pick (ltb o (length f.timetable))
    (case_answers k c o p (cases_from (cases_at f o) p) ++ line_answers k c (lines_from f.timetable (next_line f.timetable o)))
    []

module _ (f : Files) (k : ℕ) (c : List ℕ) where
  -- at a line's start, those at the lines from there on
  from_start : (o : ℕ) → left_from f k c o 0 ≡ line_answers k c (lines_from f.timetable o)
  unfolding line_answers
  from_start o =
      let t = f.timetable in
      ⊎_elim
      (λ l.
      let all = cases_all (cases_at f o) (stands_for_some utc (line_at t o).text) in
      rw (lt-ltb o (length t) l, lines_next t o l, line_offset t o, all))
      (λ e. rw (le-ltb o (length t) e, lines_end t o e))
      (line_or_end t o)

  -- while a line is left, those at its cases from the place on, and at the lines after it
  in_line : (o p : ℕ) → o < length f.timetable
      → left_from f k c o p ≡ case_answers k c o p (cases_from (cases_at f o) p) ++ line_answers k c (lines_from f.timetable (next_line f.timetable o))
  in_line o p l = rw (lt-ltb o (length f.timetable) l)

  abbrev left_at : Spot → List Turned
  left_at to = left_from f k c to.offset to.place

  -- the one at the seat's place, then those where it goes on
  from_place : (s : Seat) → has_line f s ≡ true
      → left_at (record { offset = s.offset; place = s.place })
      ≡ answer_for k s.offset s.place (case_result c (case_at (cases_at f s.offset) s.place)) ∷ left_at (onward_from f s)
  unfolding case_answers
  from_place s l =
      let o = s.offset in
      let p = s.place in
      let cs = cases_at f o in
      let here = ltb-true o (length f.timetable) l in
      in_line o p here
      ∙ ap (λ (x : List Turned). answer_for k o p (case_result c (case_at cs p)) ∷ x)
      (⊎_elim
      (λ m.
      ap (λ (x : List Case). case_answers k c o (suc p) x ++ line_answers k c (lines_from f.timetable (next_line f.timetable o))) (cases_more cs p (omega arith))
      ∙ sym (ap left_at (onward_more f s m) ∙ ap (left_from f k c o) (add-one p) ∙ in_line o (suc p) here))
      (λ m.
      let h : length cs ≤ suc p = omega arith in
      ap (λ (x : List Case). case_answers k c o (suc p) x ++ line_answers k c (lines_from f.timetable (next_line f.timetable o))) (drop_of_length-le cs h)
      ∙ sym (ap left_at (onward_next f s m) ∙ from_start (next_line f.timetable o)))
      (more_or_last f s))

-- answers, then Done with their counts and h hits and u unreadable turns before them
abbrev concluded : ℕ → ℕ → ℕ → List Turned → List Turned
concluded k h u given = given ++ (done_with k (h + how_many hit_in given) (u + how_many unreadable_in given) ∷ [])

-- what a seat has before it
abbrev answers_from : Files → Seat → List Turned
answers_from f s = concluded s.ticket s.hits s.unreadable (left_from f s.ticket (condition_of s) s.offset s.place)

module _ (f : Files) where
  -- one case: its answer, then those where the seat goes on
  one_case : (n : ℕ) (to : Spot) (s : Seat) (v : Result)
      → serves (suc n) f (judged_as to s v).seat ≡ answers_from f (judged_as to s v).seat
      → (judged_as to s v).answer ∷ serves (suc n) f (judged_as to s v).seat
      ≡ concluded s.ticket s.hits s.unreadable
      (answer_for s.ticket s.offset s.place v ∷ left_from f s.ticket (condition_of s) to.offset to.place)
  unfolding how_many
  one_case n to s hit ih = rw (ih, add_assoc, zero-add)
  one_case n to s miss ih = rw (ih, zero-add, zero-add)
  one_case n to s (unreadable r) ih = rw (ih, add_assoc, zero-add)

  serves_left : (n : ℕ) (s : Seat) → turns_left f s ≡ n → serves (suc n) f s ≡ answers_from f s
  unfolding serves how_many
  serves_left zero s e =
      let z : has_line f s ≡ false = ⊎_elim (λ l. absurd (omega (arith, left_on f s l))) (λ z. z) (line_or_done f s) in
      rw (serve_done f s z, z, add-zero, add-zero)
  serves_left (suc n) s e =
      let l : has_line f s ≡ true = ⊎_elim (λ l. l) (λ z. absurd (omega (arith, left_off f s z))) (line_or_done f s) in
      let next : turns_left f s ≡ suc (turns_left f (judged_as (onward_from f s) s (seat_result f s)).seat) = rw (serve_line f s l) at (left_on f s l) in
      rw (serve_line f s l, from_place f s.ticket (condition_of s) s l)
      (one_case n (onward_from f s) s (seat_result f s) (serves_left n (judged_as (onward_from f s) s (seat_result f s)).seat (omega arith)))

pub expected_serves : (f : Files) (c : Request) (k : ℕ) → serves (suc (turns_asked f)) f (seat_for k c) ≡ expected k f c
unfolding offset_lines
expected_serves f c k =
    let on = serves_left f (turns_asked f) (seat_for k c) (left_start f k c) in
    rw (from_start f k (condition_of (seat_for k c)) 0, take-append_seam, zero-add, zero-add) at on

serves_count : (n : ℕ) (f : Files) (s : Seat) → length (serves n f s) ≡ n
unfolding serves
serves_count zero f s = refl
serves_count (suc n) f s = ap suc (serves_count n f (serve_of f s).seat)

pub answers_and_done : AnswersAndDone
answers_and_done k f r =
    let count : length (expected k f r) ≡ suc (turns_asked f) = ap length (sym (expected_serves f r k)) ∙ serves_count (suc (turns_asked f)) f (seat_for k r) in
    omega (arith, count)

pub demand3_lines : Demand3Lines
demand3_lines f c d k es q run = query_gets f c d k es q run ∙ expected_serves f c k
