-- The ticket number aside, a query gets what it would get with the desk to itself: what a seat answers depends on its ticket
-- in nothing but the ticket.
use mathlib.Core.Path.{◌≡◌, refl, sym, ap, ◌∙◌}
use mathlib.Core.Bool.{Bool, true, false}
use mathlib.Core.List.{map}
use Prim.Native.Nat.{ℕ, zero, suc}
use native.Mathlib.Omega.{arith}
use lib.ListN.{replicate}
use Rattle.basis.specs.Choice.{pick}
use Rattle.desk_seat.specs.Files.{Files}
use Rattle.desk_seat.specs.Conditions.{Result, hit, miss, unreadable}
use Rattle.desk_seat.specs.Answers.{done_with}
use Rattle.desk_seat.specs.Seat.{free_seat, seat_for}
use Rattle.desk_seat.specs.Serving.{Step, has_line, onward_from, seat_result, judged_as, serve_of}
use Rattle.desk_seat.specs.TurnsLeft.{turns_asked}
use Rattle.desk_seat.specs.declared.Seat.{Seat}
use Rattle.desk.specs.Desk.{fresh_for}
use Rattle.desk_laws.proofs.NewDesk.{new_for, new_accepts}
use Rattle.desk_fairness.specs.Events.{turns, turn_count, Unclosed}
use Rattle.desk_fairness.specs.Demand3.{Query, Course, turns_for, ticket_aside, Demand3}
use Rattle.desk_fairness.proofs.Fair.{serves, seated_by, before_sound, query_gets}

-- ---- the ticket of a seat aside
strip : Seat → Seat
strip s =
    record {
      held = s.held;
      ticket = 0;
      offset = s.offset;
      place = s.place;
      hits = s.hits;
      unreadable = s.unreadable;
      condition_length = s.condition_length;
      condition = s.condition;
    }

outcome : Files → Seat → Bool → Result → Step
outcome f s b v =
    pick b (judged_as (onward_from f s) s v) (record { seat = free_seat; answer = done_with s.ticket s.hits s.unreadable })

module _ (f : Files) where
  outcome_seat : (s : Seat) (b : Bool) (v : Result) → strip (outcome f s b v).seat ≡ strip (outcome f (strip s) b v).seat
  unfolding strip outcome onward_from
  outcome_seat s true hit = refl
  outcome_seat s true miss = refl
  outcome_seat s true (unreadable r) = refl
  outcome_seat s false v = refl

  outcome_answer : (s : Seat) (b : Bool) (v : Result) → ticket_aside (outcome f s b v).answer ≡ ticket_aside (outcome f (strip s) b v).answer
  unfolding strip outcome onward_from
  outcome_answer s true hit = refl
  outcome_answer s true miss = refl
  outcome_answer s true (unreadable r) = refl
  outcome_answer s false v = refl

  strip_seat : (s : Seat) → strip (serve_of f s).seat ≡ strip (serve_of f (strip s)).seat
  unfolding serve_of strip outcome onward_from
  strip_seat s = outcome_seat s (has_line f s) (seat_result f s)

  strip_answer : (s : Seat) → ticket_aside (serve_of f s).answer ≡ ticket_aside (serve_of f (strip s)).answer
  unfolding serve_of strip outcome onward_from
  strip_answer s = outcome_answer s (has_line f s) (seat_result f s)

  same_aside : (n : ℕ) (s s' : Seat) → strip s ≡ strip s' → map ticket_aside (serves n f s) ≡ map ticket_aside (serves n f s')
  unfolding serves
  same_aside zero s s' e = refl
  same_aside (suc n) s s' e =
      let a : ticket_aside (serve_of f s).answer ≡ ticket_aside (serve_of f s').answer =
      strip_answer s ∙ ap (λ (x : Seat). ticket_aside (serve_of f x).answer) e ∙ sym (strip_answer s')
      in
      let b : strip (serve_of f s).seat ≡ strip (serve_of f s').seat =
      strip_seat s ∙ ap (λ (x : Seat). strip (serve_of f x).seat) e ∙ sym (strip_seat s')
      in
      rw (a, same_aside n (serve_of f s).seat (serve_of f s').seat b)

-- ---- a desk of its own
pub only_turns : (k n : ℕ) → Unclosed k (replicate n turns)
unfolding Unclosed
only_turns k zero = tt
only_turns k (suc n) = only_turns k n

pub turns_count : (n : ℕ) → turn_count (replicate n turns) ≡ n
unfolding turn_count
turns_count zero = refl
turns_count (suc n) = ap suc (turns_count n)

pub demand3 : Demand3
demand3 f c d k es q run =
    let w = (seated_by f c d k q).0 in
    let new = new_for f d (before_sound f c d q.desk q.lengths w) q.lengths in
    let alone : Query f c (fresh_for f).desk 1 = record { desk = new.size; lengths = new.lengths; accepted = new_accepts f c d (fresh_for f).desk new w } in
    let turned : Course f 1 (replicate (turns_for f) turns) = record { unclosed = only_turns 1 (turns_for f); taken = omega (arith, turns_count (turns_for f)) } in
    ap (map ticket_aside) (query_gets f c d k es q run)
    ∙ same_aside f (suc (turns_asked f)) (seat_for k c) (seat_for 1 c) (unfold strip in refl)
    ∙ sym (ap (map ticket_aside) (query_gets f c (fresh_for f).desk 1 (replicate (turns_for f) turns) alone turned))
