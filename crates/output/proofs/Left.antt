-- What a desk has left to do, counted in turns: for each held seat those that it has left, and one for Done. A turn that serves a
-- seat makes that less, and it is never more than 1,440 for each byte of the timetable and Done for each seat.
use native.Mathlib.Omega.{arith}
use mathlib.Core.Path.{◌≡◌, ap, ◌∙◌}
use mathlib.Core.Bool.{Bool, true, false}
use mathlib.Core.List.{List, [], ◌∷◌}
use mathlib.Core.Logic.{⊎_elim}
use Prim.Native.Nat.{ℕ, zero, suc, ◌+◌, ◌*◌, ◌≤◌, ◌<◌}
use lib.ListN.{length, get_or, set}
use Rattle.basis.specs.Choice.{pick}
use Rattle.run_times.specs.Occurrences.{most_occurrences}
use Rattle.desk_seat.specs.Bounds.{max_timetable}
use Rattle.desk_seat.specs.Files.{Files}
use Rattle.desk_seat.specs.Serving.{serve_of}
use Rattle.desk_seat.specs.TurnsLeft.{turns_left}
use Rattle.desk_seat.specs.declared.Seat.{Seat}
use Rattle.desk_seat.proofs.Serving.{line_or_done, on_held, off_free}
use Rattle.desk_seat.proofs.TurnsLeft.{left_on, left_few}
use Rattle.desk.specs.Seats.{seat_at}
use Rattle.desk.specs.declared.Desk.{Desk}

abbrev pub seat_left : Files → Seat → ℕ
seat_left f s = pick s.held (suc (turns_left f s)) 0

unfoldable pub seats_left : Files → List Seat → ℕ
seats_left f [] = 0
seats_left f (s ∷ ss) = seat_left f s + seats_left f ss

unfoldable pub desk_left : Files → Desk → ℕ
desk_left f d = seats_left f d.seats

-- ---- one seat
held_left : (f : Files) (s : Seat) → s.held ≡ true → seat_left f s ≡ suc (turns_left f s)
held_left f s h = ap (λ (b : Bool). pick b (suc (turns_left f s)) 0) h

free_left : (f : Files) (s : Seat) → s.held ≡ false → seat_left f s ≡ 0
free_left f s h = ap (λ (b : Bool). pick b (suc (turns_left f s)) 0) h

served_less : (f : Files) (s : Seat) → s.held ≡ true → seat_left f (serve_of f s).seat < seat_left f s
served_less f s h =
    ⊎_elim (λ l. omega (arith, held_left f (serve_of f s).seat (on_held f s l ∙ h), held_left f s h, left_on f s l))
    (λ l. omega (arith, free_left f (serve_of f s).seat (off_free f s l), held_left f s h))
    (line_or_done f s)

seat_bounded : (f : Files) (s : Seat) → length f.timetable ≤ max_timetable → seat_left f s ≤ most_occurrences * max_timetable + 1
seat_bounded f s l = go s.held
  where
    go : (b : Bool) → pick b (suc (turns_left f s)) 0 ≤ most_occurrences * max_timetable + 1
    go true = omega (arith, left_few f s)
    go false = omega arith

-- ---- all seats
left_set : (f : Files) (ss : List Seat) (i : ℕ) (x z : Seat) → i < length ss → seats_left f (set ss i x) + seat_left f (get_or ss i z) ≡ seats_left f ss + seat_left f x
unfolding seats_left
left_set f [] i x z l = absurd (omega arith)
left_set f (s ∷ ss) zero x z l = omega arith
left_set f (s ∷ ss) (suc i) x z l = omega (arith, left_set f ss i x z (omega arith))

seat_set : (f : Files) (d : Desk) (i : ℕ) (x : Seat) → i < length d.seats → seats_left f (set d.seats i x) + seat_left f (seat_at d i) ≡ seats_left f d.seats + seat_left f x
seat_set f d i x l = left_set f d.seats i x _ l

left_bounded : (f : Files) (ss : List Seat) → length f.timetable ≤ max_timetable → seats_left f ss ≤ (most_occurrences * max_timetable + 1) * length ss
unfolding seats_left
left_bounded f [] l = omega arith
left_bounded f (s ∷ ss) l = omega (arith, seat_bounded f s l, left_bounded f ss l)

-- a desk whose seats are those of another but for one, a held seat that was served, has less left
pub serving_less : (f : Files) (d h : Desk) (i : ℕ) → i < length d.seats → (seat_at d i).held ≡ true → h.seats ≡ set d.seats i (serve_of f (seat_at d i)).seat
    → desk_left f h < desk_left f d
unfolding desk_left
serving_less f d h i l b e = rw e (omega (arith, seat_set f d i (serve_of f (seat_at d i)).seat l, served_less f (seat_at d i) b))

pub desk_bounded : (f : Files) (d : Desk) → length f.timetable ≤ max_timetable → desk_left f d ≤ (most_occurrences * max_timetable + 1) * length d.seats
unfolding desk_left
desk_bounded f d l = left_bounded f d.seats l
