-- What serving a seat does: while lines are left the case at its place is judged and it goes on to the next place, or to the next line;
-- at the timetable's end it is done.
use mathlib.Core.Path.{◌≡◌, refl, sym, ◌∙◌}
use mathlib.Core.Bool.{Bool, true, false, true≢false}
use mathlib.Core.List.{List}
use mathlib.Core.Logic.{⊎_elim, ◌⊎◌, inl, inr}
use Prim.Native.Nat.{ℕ, ◌+◌, ◌≤◌, ◌<◌}
use borrow.Author.Tests.{lt-ltb, le-ltb, ltb-true, ltb-false}
use lib.Dec.{ltb}
use lib.ListN.{length}
use Rattle.basis.specs.Choice.{pick}
use Rattle.value_instants.specs.Ticks.{utc}
use Rattle.timetable.specs.Lines.{next_line, line_at}
use Rattle.run_cases.specs.StandsFor.{stands_for}
use Rattle.run_cases.specs.Carried.{case_said, Shows}
use Rattle.run_cases.specs.declared.CaseAtPlace.{CaseAtPlace}
use Rattle.desk_seat.specs.Files.{Files}
use Rattle.desk_seat.specs.Conditions.{Result, hit, miss, unreadable}
use Rattle.desk_seat.specs.Answers.{ticket_of, done_with}
use Rattle.desk_seat.specs.Seat.{free_seat, condition_of}
use Rattle.desk_seat.specs.Serving.{has_line, cases_at, case_result, onward_from, seat_result, judged_as, serve_of}
use Rattle.desk_seat.specs.declared.Seat.{Seat}
use Rattle.desk_seat.specs.declared.Spot.{Spot}

module _ (f : Files) (s : Seat) where
  pub line_or_done : (has_line f s ≡ true) ⊎ (has_line f s ≡ false)
  line_or_done = go (has_line f s) refl
    where
      go : (b : Bool) → has_line f s ≡ b → (has_line f s ≡ true) ⊎ (has_line f s ≡ false)
      go true e = inl e
      go false e = inr e

  pub serve_line : has_line f s ≡ true → serve_of f s ≡ judged_as (onward_from f s) s (seat_result f s)
  unfolding serve_of
  serve_line l = rw l

  pub serve_done : has_line f s ≡ false → serve_of f s ≡ record { seat = free_seat; answer = done_with s.ticket s.hits s.unreadable }
  unfolding serve_of
  serve_done l = rw l

  pub serve_end : length f.timetable ≤ s.offset → serve_of f s ≡ record { seat = free_seat; answer = done_with s.ticket s.hits s.unreadable }
  serve_end l = serve_done (le-ltb _ _ l)

  -- ---- where the seat goes on

  -- its line has another place, or not
  pub more_or_last : (s.place + 1 < length (cases_at f s.offset)) ⊎ (length (cases_at f s.offset) ≤ s.place + 1)
  more_or_last = go (ltb (s.place + 1) (length (cases_at f s.offset))) refl
    where
      go : (b : Bool) → ltb (s.place + 1) (length (cases_at f s.offset)) ≡ b
          → (s.place + 1 < length (cases_at f s.offset)) ⊎ (length (cases_at f s.offset) ≤ s.place + 1)
      go true e = inl (ltb-true (s.place + 1) (length (cases_at f s.offset)) e)
      go false e = inr (ltb-false (s.place + 1) (length (cases_at f s.offset)) e)

  pub onward_more : s.place + 1 < length (cases_at f s.offset) → onward_from f s ≡ record { offset = s.offset; place = s.place + 1 }
  unfolding onward_from
  onward_more h = rw (lt-ltb (s.place + 1) (length (cases_at f s.offset)) h)

  pub onward_next : length (cases_at f s.offset) ≤ s.place + 1 → onward_from f s ≡ record { offset = next_line f.timetable s.offset; place = 0 }
  unfolding onward_from
  onward_next h = rw (le-ltb (s.place + 1) (length (cases_at f s.offset)) h)

  -- for code that has the line and the next line's start, and has looked at the place in what the line stands for
  pub serve_case : (line : List ℕ) (next : ℕ) (to : Spot) (r : CaseAtPlace) → (line_at f.timetable s.offset).text ≡ line
      → next_line f.timetable s.offset ≡ next
      → Shows r line (stands_for utc line) s.place
      → to ≡ pick r.more (record { offset = s.offset; place = s.place + 1 }) (record { offset = next; place = 0 })
      → judged_as (onward_from f s) s (seat_result f s) ≡ judged_as to s (case_result (condition_of s) (case_said line r.made r.read))
  unfolding onward_from
  serve_case line next to r l n x e = rw (e, x.what, x.more, l, n)

  -- ---- the seat and the answer afterwards
  judged_held : (to : Spot) (v : Result) → (judged_as to s v).seat.held ≡ s.held
  judged_held to hit = refl
  judged_held to miss = refl
  judged_held to (unreadable r) = refl

  judged_ticket : (to : Spot) (v : Result) → (judged_as to s v).seat.ticket ≡ s.ticket
  judged_ticket to hit = refl
  judged_ticket to miss = refl
  judged_ticket to (unreadable r) = refl

  judged_offset : (to : Spot) (v : Result) → (judged_as to s v).seat.offset ≡ to.offset
  judged_offset to hit = refl
  judged_offset to miss = refl
  judged_offset to (unreadable r) = refl

  judged_place : (to : Spot) (v : Result) → (judged_as to s v).seat.place ≡ to.place
  judged_place to hit = refl
  judged_place to miss = refl
  judged_place to (unreadable r) = refl

  judged_answer : (to : Spot) (v : Result) → ticket_of (judged_as to s v).answer ≡ s.ticket
  judged_answer to hit = refl
  judged_answer to miss = refl
  judged_answer to (unreadable r) = refl

  -- while lines are left
  pub on_held : has_line f s ≡ true → (serve_of f s).seat.held ≡ s.held
  on_held l = rw (serve_line l) (judged_held (onward_from f s) (seat_result f s))

  pub on_ticket : has_line f s ≡ true → (serve_of f s).seat.ticket ≡ s.ticket
  on_ticket l = rw (serve_line l) (judged_ticket (onward_from f s) (seat_result f s))

  pub on_offset : has_line f s ≡ true → (serve_of f s).seat.offset ≡ (onward_from f s).offset
  on_offset l = rw (serve_line l) (judged_offset (onward_from f s) (seat_result f s))

  pub on_place : has_line f s ≡ true → (serve_of f s).seat.place ≡ (onward_from f s).place
  on_place l = rw (serve_line l) (judged_place (onward_from f s) (seat_result f s))

  pub off_free : has_line f s ≡ false → (serve_of f s).seat.held ≡ false
  off_free l = rw (serve_done l)

  -- in any case
  pub served_ticket : (serve_of f s).seat.held ≡ true → (serve_of f s).seat.ticket ≡ s.ticket
  served_ticket e = ⊎_elim (λ l. on_ticket l) (λ l. absurd (true≢false (sym e ∙ off_free l))) line_or_done

  pub served_answer : ticket_of (serve_of f s).answer ≡ s.ticket
  served_answer = ⊎_elim (λ l. rw (serve_line l) (judged_answer (onward_from f s) (seat_result f s))) (λ l. rw (serve_done l)) line_or_done
