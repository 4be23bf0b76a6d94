-- A lone query is served at every turn: the seat that a turn finds is held, and only its own is.
use mathlib.Core.Path.{◌≡◌, refl, sym, ap, ◌∙◌}
use mathlib.Core.Bool.{true, false, true≢false}
use mathlib.Core.List.{List, [], ◌∷◌}
use mathlib.Core.Logic.{⊎_elim}
use Prim.Native.Nat.{ℕ, zero, suc, ◌+◌, ◌%◌, ◌≤◌, ◌<◌}
use native.Mathlib.Decide.{ℕ_discrete}
use native.Mathlib.Omega.{arith}
use lib.ListN.{take, replicate}
use Rattle.desk_seat.specs.Files.{Files}
use Rattle.desk_seat.specs.Answers.{Turned}
use Rattle.desk_seat.specs.Seat.{seat_for}
use Rattle.desk_seat.specs.Serving.{serve_of}
use Rattle.desk_seat.specs.TurnsLeft.{turns_left}
use Rattle.desk_seat.specs.declared.Seat.{Seat}
use Rattle.desk_seat.proofs.Serving.{line_or_done, served_answer}
use Rattle.desk_seat.proofs.TurnsLeft.{left_start, left_on, left_off}
use Rattle.desk.specs.Bounds.{seat_count}
use Rattle.desk.specs.Seats.{seat_at, first_from}
use Rattle.desk.specs.Desk.{open_of, turn_of}
use Rattle.desk.specs.declared.Desk.{Desk}
use Rattle.desk_laws.proofs.Sound.{at_other}
use Rattle.desk_fairness.specs.Events.{turns, mine, answers_of}
use Rattle.desk_fairness.specs.Demand3.{LoneQuery}
use Rattle.desk_fairness.proofs.Tracks.{Track, is_mine, works, it_track, it_gone, it_answer, it_others}
use Rattle.desk_fairness.proofs.Fair.{serves, gone, seated_by, before_sound, some_ticket, taken}
use Rattle.desk_fairness.proofs.LineForLine.{expected_serves}

-- only seat i is held
abbrev Only : Desk → ℕ → Type 0
Only d i = (j : ℕ) → j < seat_count → (j ≡ i → ⊥) → (seat_at d j).held ≡ false

take_none : (n : ℕ) → ◌≡◌ {A = List Turned} (take n []) []
take_none zero = refl
take_none (suc n) = refl

module _ (f : Files) (k : ℕ) (pos : 1 ≤ k) where
  -- the seat found is the query's
  found : (d : Desk) (i : ℕ) (s : Seat) → Track f k pos d i s → Only d i → first_from d true (d.last_served + 1) % seat_count ≡ i
  found d i s r only =
      let p = first_from d true (d.last_served + 1) % seat_count in
      elim (ℕ_discrete p i) [ yes q ↦ q | no n ↦ absurd (true≢false (sym (works f k pos d i s r).held ∙ only p (omega arith) n)) ]

  served_each : (n : ℕ) (d : Desk) (i : ℕ) (s : Seat) → Track f k pos d i s → Only d i
      → answers_of k f d (replicate n turns) ≡ take n (serves (suc (turns_left f s)) f s)
  unfolding answers_of serves
  served_each zero d i s r only = refl
  served_each (suc n) d i s r only =
      let e = found d i s r only in
      let mine_eq : mine k (turn_of f d).answer (answers_of k f (turn_of f d).desk (replicate n turns))
      ≡ (serve_of f s).answer ∷ answers_of k f (turn_of f d).desk (replicate n turns) =
      rw (it_answer f k pos d i s r e) (is_mine k (serve_of f s).answer _ (served_answer f s ∙ r.tick))
      in
      mine_eq
      ∙ ap (λ (x : List Turned). (serve_of f s).answer ∷ x)
      (⊎_elim
      (λ l.
      let lf = left_on f s l in
      served_each n (turn_of f d).desk i (serve_of f s).seat (it_track f k pos d i s r e l)
      (λ j lj ne. rw (it_others f k pos d i s r e j ne) (only j lj ne))
      ∙ rw lf)
      (λ z. gone f k pos (replicate n turns) (turn_of f d).desk (it_gone f k pos d i s r e z) ∙ rw (left_off f s z) (sym (take_none n)))
      (line_or_done f s))

pub lone_query : LoneQuery
lone_query f c d k n q free =
    let sb = seated_by f c d k q in
    let w = sb.0 in
    let kq = sb.1 in
    let z = q.desk in
    let e = q.lengths in
    let p = first_from d false 0 in
    let only : Only (open_of c d).desk (first_from d false 0) = λ j lj ne.
    rw w.is
    (rw (at_other d (before_sound f c d z e w) p w.free (seat_for (d.issued + 1) c) d.last_served (d.issued + 1) j ne) (free j lj))
    in
    rw (← kq)
    (served_each f (d.issued + 1) (some_ticket d.issued) n (open_of c d).desk (first_from d false 0) (seat_for (d.issued + 1) c) (taken f c d z e w) only
    ∙ rw (left_start f (d.issued + 1) c, expected_serves f c (d.issued + 1)))
