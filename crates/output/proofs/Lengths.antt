-- The line of any turn of a sound desk fits the room for a line: it has a word, a ticket and two numbers, neither greater than a
-- count can be. Open's has one number.
use native.Mathlib.Omega.{arith}
use mathlib.Core.Path.{◌≡◌, refl, sym}
use mathlib.Core.Bool.{Bool, true, false, true≢false}
use mathlib.Core.List.{List}
use mathlib.Core.Logic.{⊎_elim}
use Prim.Native.Nat.{ℕ, ◌+◌, ◌≤◌, ◌<◌}
use borrow.Author.Tests.{leb-true, eqb-true, ltb-true}
use lib.Dec.{eqb, ltb}
use lib.ListN.{length}
use Rattle.basis.specs.Choice.{pick}
use Rattle.basis.specs.Answer.{Reason, Answer, gives, refuses_for}
use Rattle.basis.specs.Letters.{bytes}
use Rattle.timetable.specs.Lines.{line_at}
use Rattle.value_instants.specs.Ticks.{utc}
use Rattle.value.specs.Refusals.{no_seat, not_sound, no_more_tickets, too_many}
use Rattle.run_times.specs.Occurrences.{most_occurrences}
use Rattle.run_cases.specs.Cases.{Case, row_case, miss_case, refusal_case, case_at}
use Rattle.run_cases.proofs.Refusals.{refusals_at_line}
use Rattle.condition.proofs.Readable.{Readable, accepted_readable}
use Rattle.condition_parts.specs.Numbers.{at_row}
use Rattle.desk_seat.specs.Bounds.{max_timetable}
use Rattle.desk_seat.specs.Files.{Files}
use Rattle.desk_seat.specs.Request.{Request}
use Rattle.desk_seat.specs.Conditions.{Result, hit, miss, unreadable, accepted, check_of, result_at}
use Rattle.desk_seat.specs.Seat.{condition_of}
use Rattle.desk_seat.specs.Serving.{cases_at, case_result, serve_of, judged_as, seat_result, onward_from}
use Rattle.desk_seat.specs.declared.Seat.{Seat}
use Rattle.desk_seat.specs.declared.Spot.{Spot}
use Rattle.desk_seat.proofs.Soundness.{Servable}
use Rattle.desk_seat.proofs.Serving.{line_or_done, serve_line, serve_done}
use Rattle.value_instants.proofs.Instants.{utc_good}
use Rattle.desk.specs.Bounds.{seat_count, last_ticket}
use Rattle.desk.specs.Seats.{first_from}
use Rattle.desk.specs.Soundness.{sound_of}
use Rattle.desk.specs.Desk.{open_of}
use Rattle.desk.specs.declared.Desk.{Desk}
use Rattle.desk_laws.proofs.OwnNumbers.{own_low}
use Rattle.output_lines.specs.Text.{refused_line, open_line, turn_line, line_room}
use Rattle.output_lines.proofs.Widths.{three_fit, one_fits}

-- the numbers that a row's result can have are small
number_small : (n : ℕ) → at_row n ≡ true → n ≤ too_many
number_small n h = go (eqb n 1) (eqb n 2) (eqb n 3) (eqb n 4) (eqb n 6) refl refl refl refl refl h
  where
    go : (a b c d e : Bool) → eqb n 1 ≡ a → eqb n 2 ≡ b → eqb n 3 ≡ c → eqb n 4 ≡ d → eqb n 6 ≡ e → pick a true (pick b true (pick c true (pick d true e))) ≡ true → n ≤ too_many
    go true b c d e p q r s z k = let w = eqb-true n 1 p in omega arith
    go false true c d e p q r s z k = let w = eqb-true n 2 q in omega arith
    go false false true d e p q r s z k = let w = eqb-true n 3 r in omega arith
    go false false false true e p q r s z k = let w = eqb-true n 4 s in omega arith
    go false false false false true p q r s z k = let w = eqb-true n 6 z in omega arith
    go false false false false false p q r s z k = absurd (true≢false (sym k))

-- and those of a case that a line stands for
abbrev Small : Result → Type 0
Small hit = Unit {0}
Small miss = Unit {0}
Small (unreadable r) = r.number ≤ too_many

readable_small : (v : Result) → Readable v → Small v
readable_small hit r = tt
readable_small miss r = tt
readable_small (unreadable r) q = number_small r.number q

case_small : (text : List ℕ) (x : Case) → accepted text ≡ true → ((r : Reason) → x ≡ refusal_case r → r.number ≤ too_many) → Small (case_result text x)
case_small text (row_case row) h few = readable_small (result_at utc text row) (accepted_readable utc text row utc_good h)
case_small text miss_case h few = tt
case_small text (refusal_case r) h few = few r refl

seat_small : (f : Files) (s : Seat) → accepted (condition_of s) ≡ true → Small (seat_result f s)
seat_small f s h =
    case_small (condition_of s) (case_at (cases_at f s.offset) s.place) h
    (refusals_at_line utc (line_at f.timetable s.offset).text s.place)

judged_fits : (to : Spot) (s : Seat) (v : Result) → Small v → s.ticket ≤ last_ticket → s.offset ≤ max_timetable → s.place < most_occurrences
    → length (turn_line (gives (judged_as to s v).answer)) ≤ line_room
judged_fits to s hit r k o p = three_fit (bytes "hit") s.ticket s.offset s.place (leb-true (length (bytes "hit")) 10 refl) k (omega arith) (omega arith)
judged_fits to s miss r k o p = three_fit (bytes "miss") s.ticket s.offset s.place (leb-true (length (bytes "miss")) 10 refl) k (omega arith) (omega arith)
judged_fits to s (unreadable why) r k o p =
    three_fit (bytes "unreadable") s.ticket s.offset why.number (leb-true (length (bytes "unreadable")) 10 refl) k (omega arith) (omega (arith, r))

pub served_fits : (f : Files) (long : ℕ) (s : Seat) → Servable long s → long ≤ max_timetable → s.ticket ≤ last_ticket
    → length (turn_line (gives (serve_of f s).answer)) ≤ line_room
served_fits f long s v l k =
    let w = v.within in
    let p = v.place in
    let c = v.counts in
    ⊎_elim (λ b. rw (serve_line f s b) (judged_fits (onward_from f s) s (seat_result f s) (seat_small f s v.good) k (omega arith) p))
    (λ b. rw (serve_done f s b) (three_fit (bytes "done") s.ticket s.hits s.unreadable (leb-true (length (bytes "done")) 10 refl) k (omega arith) (omega arith)))
    (line_or_done f s)

-- ---- Open's lines
pub refused_fits : (n : ℕ) → n ≤ last_ticket → length (refused_line n) ≤ line_room
refused_fits n l = one_fits (bytes "refused") n (leb-true (length (bytes "refused")) 10 refl) l

pub open_fits : (r : Request) (d : Desk) → length (open_line (open_of r d).answer) ≤ line_room
unfolding open_of
open_fits r d = go (sound_of d) (check_of r.condition) (ltb (first_from d false 0) seat_count) (ltb d.issued last_ticket) refl refl refl refl
  where
    go : (a : Bool) (b : Answer (Unit {0})) (x y : Bool) → sound_of d ≡ a → check_of r.condition ≡ b → ltb (first_from d false 0) seat_count ≡ x → ltb d.issued last_ticket ≡ y
        → length (open_line (open_of r d).answer) ≤ line_room
    go false b x y e f g h = rw e (refused_fits not_sound (omega arith))
    go true (refuses_for why) x y e f g h = rw (e, f) (refused_fits why.number (omega (arith, own_low r.condition why f)))
    go true (gives u) false y e f g h = rw (e, f, g) (refused_fits no_seat (omega arith))
    go true (gives u) true false e f g h = rw (e, f, g, h) (refused_fits no_more_tickets (omega arith))
    go true (gives u) true true e f g h =
        rw (e, f, g, h) (one_fits (bytes "open") (d.issued + 1) (leb-true (length (bytes "open")) 10 refl) (let k : d.issued < last_ticket = ltb-true d.issued last_ticket h in omega arith))
