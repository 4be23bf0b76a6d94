-- What a seat has left falls by one at each turn of its own, at any place, until nothing is left at the timetable's end. At first it
-- is all that is asked, and it is never more than 1,440 for each byte of the timetable.
use mathlib.Core.Path.{◌≡◌, refl, sym, ap, ◌∙◌}
use mathlib.Core.Bool.{Bool, true, false}
use mathlib.Core.Logic.{⊎_elim}
use mathlib.Core.List.{List, [], ◌∷◌}
use Prim.Native.Nat.{ℕ, suc, ◌+◌, ◌-◌, ◌*◌, ◌≤◌, ◌<◌}
use native.Mathlib.Omega.{arith}
use borrow.Author.Tests.{lt-ltb, le-ltb, ltb-true}
use lib.Dec.{ltb}
use lib.ListN.{length}
use Rattle.basis.specs.Choice.{pick}
use Rattle.value_instants.specs.Ticks.{utc}
use Rattle.timetable.specs.Lines.{Line, lines_from, offset_lines, line_at, next_line}
use Rattle.timetable.proofs.Offsets.{line_or_end, next_further, lines_next, lines_end, count_from, count_within}
use Rattle.run_times.specs.Occurrences.{most_occurrences}
use Rattle.run_cases.proofs.Lines.{stands_for_some, stands_for_few}
use Rattle.desk_seat.specs.Files.{Files}
use Rattle.desk_seat.specs.Request.{Request}
use Rattle.desk_seat.specs.Seat.{seat_for}
use Rattle.desk_seat.specs.Serving.{has_line, cases_at, onward_from, serve_of}
use Rattle.desk_seat.specs.TurnsLeft.{turns_of_lines, turns_asked, places_from, turns_left}
use Rattle.desk_seat.specs.declared.Seat.{Seat}
use Rattle.desk_seat.proofs.Serving.{more_or_last, onward_more, onward_next, on_offset, on_place}

-- ---- the places of one line
places_last : (p n : ℕ) → n ≤ p + 1 → places_from p n ≡ 1
places_last p n h = go (ltb p n) refl
  where
    go : (b : Bool) → ltb p n ≡ b → places_from p n ≡ 1
    go true e = let l = ltb-true p n e in rw e (omega arith)
    go false e = rw e

places_more : (p n : ℕ) → p + 1 < n → places_from p n ≡ suc (places_from (p + 1) n)
places_more p n h = rw (lt-ltb p n (omega arith), lt-ltb (p + 1) n h) (omega arith)

places_few : (p n : ℕ) → n ≤ most_occurrences → places_from p n ≤ most_occurrences
places_few p n h = go (ltb p n) refl
  where
    go : (b : Bool) → ltb p n ≡ b → places_from p n ≤ most_occurrences
    go true e = rw e (omega arith)
    go false e = rw e (omega arith)

-- ---- at an offset and a place
abbrev left_from : Files → ℕ → ℕ → ℕ
left_from f o p =
    pick (ltb o (length f.timetable)) (places_from p (length (cases_at f o)) + turns_of_lines (lines_from f.timetable (next_line f.timetable o))) 0

left_is : (f : Files) (s : Seat) → turns_left f s ≡ left_from f s.offset s.place
unfolding turns_left
left_is f s = refl

-- at a line's start, all that the lines from there on stand for
from_start : (f : Files) (o : ℕ) → left_from f o 0 ≡ turns_of_lines (lines_from f.timetable o)
unfolding turns_of_lines
from_start f o =
    let t = f.timetable in
    ⊎_elim
    (λ l. rw (lt-ltb o (length t) l, lt-ltb 0 (length (cases_at f o)) (stands_for_some utc (line_at t o).text), lines_next t o l) (omega arith))
    (λ e. rw (le-ltb o (length t) e, lines_end t o e))
    (line_or_end t o)

pub left_start : (f : Files) (k : ℕ) (r : Request) → turns_left f (seat_for k r) ≡ turns_asked f
unfolding turns_asked offset_lines
left_start f k r = left_is f (seat_for k r) ∙ from_start f 0

-- ---- at a turn
left_onward : (f : Files) (s : Seat) → has_line f s ≡ true → turns_left f s ≡ suc (left_from f (onward_from f s).offset (onward_from f s).place)
left_onward f s l =
    left_is f s
    ∙ ⊎_elim (λ m. rw (onward_more f s m, l, places_more s.place (length (cases_at f s.offset)) m) (omega arith))
    (λ m. rw (onward_next f s m, l, places_last s.place (length (cases_at f s.offset)) m, from_start f (next_line f.timetable s.offset)) (omega arith))
    (more_or_last f s)

pub left_on : (f : Files) (s : Seat) → has_line f s ≡ true → turns_left f s ≡ suc (turns_left f (serve_of f s).seat)
left_on f s l =
    left_onward f s l ∙ rw (← on_offset f s l, ← on_place f s l) (ap suc (sym (left_is f (serve_of f s).seat)))

pub left_off : (f : Files) (s : Seat) → has_line f s ≡ false → turns_left f s ≡ 0
unfolding turns_left
left_off f s l = rw l

-- ---- at most 1,440 for each line, and every line takes a byte
turns_few : (ls : List Line) → turns_of_lines ls ≤ most_occurrences * length ls
unfolding turns_of_lines
turns_few [] = omega arith
turns_few (l ∷ ls) = omega (arith, stands_for_few utc l.text, turns_few ls)

pub left_few : (f : Files) (s : Seat) → turns_left f s ≤ most_occurrences * length f.timetable
unfolding turns_left
left_few f s = go (has_line f s) refl
  where
    t : List ℕ
    t = f.timetable

    next : ℕ
    next = next_line t s.offset

    go : (b : Bool) → has_line f s ≡ b
        → pick b (places_from s.place (length (cases_at f s.offset)) + turns_of_lines (lines_from t next)) 0 ≤ most_occurrences * length t
    go true e =
        let l : s.offset < length t = ltb-true s.offset (length t) e in
        let further = next_further t s.offset l in
        let here = places_few s.place (length (cases_at f s.offset)) (stands_for_few utc (line_at t s.offset).text) in
        let after = turns_few (lines_from t next) in
        let few : length (lines_from t next) ≤ length t - next = omega (arith, count_from t next, count_within t next) in
        omega arith
    go false e = omega arith
