-- A sound desk's answers have offsets, places and counts within their bounds, so that their lines fit the text that is
-- written; and what its turn hands back is what a turn of its own would.
use mathlib.Core.Path.{◌≡◌, sym, ap, ◌∙◌}
use mathlib.Core.Bool.{true}
use mathlib.Core.Logic.{⊎_elim}
use Prim.Native.Nat.{ℕ, ◌+◌, ◌%◌, ◌≤◌, ◌<◌}
use native.Mathlib.Omega.{arith}
use Rattle.basis.specs.Answer.{gives}
use Rattle.run_times.specs.Occurrences.{most_occurrences}
use Rattle.desk_seat.specs.Files.{Files}
use Rattle.desk_seat.specs.Bounds.{max_timetable}
use Rattle.desk_seat.specs.Conditions.{Result, hit, miss, unreadable}
use Rattle.desk_seat.specs.Answers.{Turned, turn_meaning}
use Rattle.desk_seat.specs.Serving.{onward_from, seat_result, judged_as, serve_of}
use Rattle.desk_seat.specs.declared.Seat.{Seat}
use Rattle.desk_seat.specs.declared.Spot.{Spot}
use Rattle.desk_seat.proofs.Soundness.{Servable, servable}
use Rattle.desk_seat.proofs.Serving.{line_or_done, serve_line, serve_done}
use Rattle.desk.specs.Bounds.{seat_count}
use Rattle.desk.specs.Answers.{After, after_turn}
use Rattle.desk.specs.Seats.{seat_at, first_from}
use Rattle.desk.specs.Desk.{next_of, have_lengths, turn_of}
use Rattle.desk.specs.declared.Desk.{Desk}
use Rattle.desk.specs.declared.AfterTurn.{AfterTurn}
use Rattle.desk_laws.proofs.Sound.{Sound}
use Rattle.desk_laws.proofs.Steps.{turn_cases, turn_next}
use Rattle.output_lines.specs.Carried.{Within}

judged_within : (to : Spot) (s : Seat) (v : Result) → s.offset ≤ max_timetable → s.place < most_occurrences → Within (gives (judged_as to s v).answer)
judged_within to s hit l p = (l, p)
judged_within to s miss l p = (l, p)
judged_within to s (unreadable r) l p = l

served_within : (f : Files) (long : ℕ) (s : Seat) → Servable long s → long ≤ max_timetable → Within (gives (serve_of f s).answer)
served_within f long s v l =
    let w = v.within in
    let p = v.place in
    let c = v.counts in
    ⊎_elim (λ b. rw (serve_line f s b) (judged_within (onward_from f s) s (seat_result f s) (omega arith) p))
    (λ b. rw (serve_done f s b) (omega arith, omega arith))
    (line_or_done f s)

module _ (f : Files) (d : Desk) (o : Sound d) (e : have_lengths f d ≡ true) where
  turn_within : Within (turn_of f d).answer
  turn_within =
      ⊎_elim (λ n. rw n tt)
      (λ w.
      let i = first_from d true (d.last_served + 1) % seat_count in
      rw w.is (served_within f d.timetable_length (seat_at d i) (servable _ _ _ (o.seat i (omega arith) w.held)) o.short))
      (turn_cases f d o e)

  -- what the turn of a desk known to be sound handed back
  module _ (r : AfterTurn) (h : after_turn r ≡ next_of f d) where
    next_answer : turn_meaning r.answer ≡ (turn_of f d).answer
    next_answer = ap (λ (x : After Turned). x.answer) (h ∙ sym (turn_next f d o e))

    pub next_within : Within (turn_meaning r.answer)
    next_within = rw next_answer turn_within
