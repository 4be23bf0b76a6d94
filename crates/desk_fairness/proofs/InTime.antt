-- Each answer in its time: while a ticket is held, every 16 turns serve its seat, so that with each 16 of them one more of its
-- answers is there, until it has them all.
use mathlib.Core.Path.{◌≡◌, ◌∙◌}
use mathlib.Core.Bool.{true, false}
use mathlib.Core.List.{List, [], ◌∷◌}
use mathlib.Core.Logic.{⊎_elim}
use Prim.Native.Nat.{ℕ, zero, suc, ◌+◌, ◌*◌, ◌%◌, ◌≤◌, ◌<◌}
use native.Mathlib.Nat.{eq-or-lt_of_le}
use native.Mathlib.Omega.{arith}
use lib.ListN.{length}
use Rattle.desk_seat.specs.Files.{Files}
use Rattle.desk_seat.specs.Seat.{seat_for}
use Rattle.desk_seat.specs.Serving.{serve_of}
use Rattle.desk_seat.specs.TurnsLeft.{turns_left}
use Rattle.desk_seat.specs.declared.Seat.{Seat}
use Rattle.desk_seat.proofs.Serving.{line_or_done, served_answer}
use Rattle.desk_seat.proofs.TurnsLeft.{left_start, left_on, left_off}
use Rattle.desk.specs.Bounds.{seat_count}
use Rattle.desk.specs.Seats.{first_from}
use Rattle.desk.specs.Desk.{open_of, close_of, turn_of}
use Rattle.desk.specs.declared.Desk.{Desk}
use Rattle.desk_fairness.specs.Events.{Event, opens, closes, turns, mine, answers_of, turn_count, Unclosed}
use Rattle.desk_fairness.specs.Demand3.{Demand3InTime}
use Rattle.desk_fairness.proofs.Round.{dist, there}
use Rattle.desk_fairness.proofs.Tracks.{Track, not_mine, is_mine, track_open, track_close, reach, other_track, other_near, other_answer, it_track, it_answer, it_last}
use Rattle.desk_fairness.proofs.Fair.{some_ticket, seated_by, taken}

module _ (f : Files) (k : ℕ) (pos : 1 ≤ k) where
  -- so many turns are enough for m answers more than the next, whatever desk and seat they find
  abbrev Enough : List Event → ℕ → Type 0
  Enough es i =
      (d : Desk) (s : Seat) (m : ℕ) → Track f k pos d i s → dist d.last_served i + seat_count * m ≤ turn_count es → m ≤ turns_left f s
      → m < length (answers_of k f d es)

  -- the turn serves it
  own_turn : (es : List Event) (d : Desk) (i : ℕ) (s : Seat) (m : ℕ) (r : Track f k pos d i s) → Enough es i
      → first_from d true (d.last_served + 1) % seat_count ≡ i
      → dist d.last_served i + seat_count * m ≤ suc (turn_count es) → m ≤ turns_left f s
      → m < suc (length (answers_of k f (turn_of f d).desk es))
  own_turn es d i s zero r ih e b l = omega arith
  own_turn es d i s (suc m) r ih e b l =
      ⊎_elim
      (λ o.
      let le = it_last f k pos d i s r e in
      let lf = left_on f s o in
      let li = r.li in
      let rest : m < length (answers_of k f (turn_of f d).desk es) =
      ih (turn_of f d).desk (serve_of f s).seat m (it_track f k pos d i s r e o) (rw le (omega arith)) (omega arith) in
      omega arith)
      (λ z. absurd (omega (arith, left_off f s z)))
      (line_or_done f s)

  any_turn : (es : List Event) (d : Desk) (i : ℕ) (s : Seat) (m : ℕ) (r : Track f k pos d i s) → Enough es i
      → dist d.last_served i + seat_count * m ≤ suc (turn_count es) → m ≤ turns_left f s
      → m < length (mine k (turn_of f d).answer (answers_of k f (turn_of f d).desk es))
  any_turn es d i s m r ih b l =
      ⊎_elim
      (λ e0.
      let e : first_from d true (d.last_served + 1) % seat_count ≡ i = rw e0 (there d.last_served i r.sound.last_in r.li) in
      let mine_eq : mine k (turn_of f d).answer (answers_of k f (turn_of f d).desk es) ≡ (serve_of f s).answer ∷ answers_of k f (turn_of f d).desk es =
      rw (it_answer f k pos d i s r e) (is_mine k (serve_of f s).answer _ (served_answer f s ∙ r.tick))
      in
      rw mine_eq (own_turn es d i s m r ih e b l))
      (λ n.
      let near = other_near f k pos d i s r n in
      let mine_not = not_mine k (turn_of f d).answer (answers_of k f (turn_of f d).desk es) (other_answer f k pos d i s r n) in
      rw mine_not (ih (turn_of f d).desk s m (other_track f k pos d i s r n) (omega arith) l))
      (eq-or-lt_of_le (reach f k pos d i s r))

  in_time : (es : List Event) (d : Desk) (i : ℕ) (s : Seat) (m : ℕ) → Track f k pos d i s → Unclosed k es
      → dist d.last_served i + seat_count * m ≤ turn_count es → m ≤ turns_left f s → m < length (answers_of k f d es)
  unfolding answers_of turn_count Unclosed
  in_time [] d i s m r u b l = absurd (omega arith)
  in_time (opens c ∷ es) d i s m r u b l =
      let x = track_open f k pos c d i s r in
      in_time es (open_of c d).desk i s m x.0 u (rw x.1 b) l
  in_time (closes j ∷ es) d i s m r u b l =
      let x = track_close f k pos j d i s u.0 r in
      in_time es (close_of j d).desk i s m x.0 u.1 (rw x.1 b) l
  in_time (turns ∷ es) d i s m r u b l = any_turn es d i s m r (λ d' s' m' r' b' l'. in_time es d' i s' m' r' u b' l') b l

pub demand3_in_time : Demand3InTime
demand3_in_time f c d k zero es q u l b = omega arith
demand3_in_time f c d k (suc m) es q u l b =
    let sb = seated_by f c d k q in
    let kq = sb.1 in
    let tr = taken f c d q.desk q.lengths sb.0 in
    let all = left_start f (d.issued + 1) c in
    rw (← kq)
    (in_time f (d.issued + 1) (some_ticket d.issued) es (open_of c d).desk (first_from d false 0) (seat_for (d.issued + 1) c) m tr (rw kq u) (omega arith) (omega arith))
