-- A desk as the program has it, sound and for the program's timetable: each of its turns is Idle, or leaves less to do, and its
-- line fits. It is so at the start, and stays so through Open and turns.
use native.Mathlib.Omega.{arith}
use mathlib.Core.Path.{◌≡◌, refl, ◌∙◌}
use mathlib.Core.Bool.{Bool, true, false}
use mathlib.Core.List.{List, [], ◌∷◌}
use mathlib.Core.Logic.{⊎_elim, ◌⊎◌, inl, inr}
use Prim.Native.Nat.{◌+◌, ◌%◌, ◌≤◌, ◌<◌}
use borrow.Author.Tests.{le-leb, eq-eqb, eqb-true, ltb-true}
use lib.Dec.{ltb}
use lib.ListN.{length}
use Rattle.basis.specs.Answer.{Answer, gives, refuses_for}
use Rattle.timetable.specs.Lines.{Line}
use Rattle.desk_seat.specs.Bounds.{max_timetable}
use Rattle.desk_seat.specs.Files.{Files}
use Rattle.desk_seat.specs.Request.{Request, asking}
use Rattle.desk_seat.specs.Conditions.{check_of}
use Rattle.desk_seat.specs.Answers.{Turned, idle, hit_at, miss_at, unreadable_at, done_with, ticket_of}
use Rattle.desk_seat.specs.Serving.{serve_of}
use Rattle.desk_seat.proofs.Soundness.{servable}
use Rattle.desk_seat.proofs.Serving.{served_answer}
use Rattle.desk.specs.Bounds.{seat_count, last_ticket}
use Rattle.desk.specs.Seats.{seat_at, first_from}
use Rattle.desk.specs.Soundness.{sound_of}
use Rattle.desk.specs.Desk.{fresh_desk, fresh_of, fresh_for, open_of, have_lengths, turn_of}
use Rattle.desk.specs.declared.Desk.{Desk}
use Rattle.desk_laws.proofs.NewDesk.{fresh_sound}
use Rattle.desk_laws.proofs.Sound.{Sound, sound_in}
use Rattle.desk_laws.proofs.Steps.{old_ticket, Turns, turn_cases, turn_lengths, turn_issued, open_lengths}
use Rattle.desk_laws.proofs.Lasting.{open_lasts, turn_lasts}
use Rattle.output_lines.specs.Text.{turn_line, line_room}
use Rattle.output_turns.specs.Turns.{is_idle}
use Rattle.output_pieces.specs.Pieces.{opened_all, most_turns}
use Rattle.output_lines.proofs.Widths.{idle_fits}
use Rattle.output.proofs.Lengths.{served_fits}
use Rattle.output.proofs.Left.{desk_left, serving_less, desk_bounded}

pub record Ready (f : Files) (d : Desk) : Type 0 where
  pub sound : Sound d
  pub lengths : have_lengths f d ≡ true
  pub issued : d.issued ≤ last_ticket

abbrev pub AtIdle : Files → Desk → Type 0
AtIdle f d = turn_of f d ≡ record { desk = d; answer = gives idle }

pub record Works (f : Files) (d : Desk) : Type 0 where
  pub busy : is_idle (turn_of f d).answer ≡ false
  pub less : desk_left f (turn_of f d).desk < desk_left f d
  pub fits : length (turn_line (turn_of f d).answer) ≤ line_room

not_idle : (a : Turned) → 1 ≤ ticket_of a → is_idle (gives a) ≡ false
not_idle idle l = absurd (omega arith)
not_idle (hit_at k o p) l = refl
not_idle (miss_at k o p) l = refl
not_idle (unreadable_at k o r) l = refl
not_idle (done_with k h u) l = refl

module _ (f : Files) (d : Desk) (o : Ready f d) where
  works : Turns f d o.sound o.lengths → Works f d
  works w =
      let i = first_from d true (d.last_served + 1) % seat_count in
      let s = seat_at d (first_from d true (d.last_served + 1) % seat_count) in
      let li : i < seat_count = omega arith in
      let z = o.sound.size in
      let v = servable _ _ s (o.sound.seat i li w.held) in
      let k = old_ticket d o.sound i li w.held in
      let m = o.issued in
      let n = v.numbered in
      record {
        busy = rw w.is (not_idle (serve_of f s).answer (omega (arith, served_answer f s)));
        less = serving_less f d (turn_of f d).desk i (omega arith) w.held (rw w.is);
        fits = rw w.is (served_fits f d.timetable_length s v o.sound.short (omega arith));
      }

  pub turn_goes : AtIdle f d ⊎ Works f d
  turn_goes = ⊎_elim (λ n. inl n) (λ w. inr (works w)) (turn_cases f d o.sound o.lengths)

  pub line_fits : length (turn_line (turn_of f d).answer) ≤ line_room
  line_fits = ⊎_elim (λ n. rw n idle_fits) (λ w. w.fits) turn_goes

  pub turn_ready : Ready f (turn_of f d).desk
  turn_ready = record { sound = turn_lasts d o.sound f; lengths = turn_lengths f f d ∙ o.lengths; issued = rw (turn_issued f d) o.issued }

  -- so many turns are enough
  pub enough : desk_left f d < most_turns
  enough =
      let z = o.sound.size in
      let e = eqb-true (length f.timetable) d.timetable_length o.lengths in
      let short = o.sound.short in
      omega (arith, desk_bounded f d (omega arith))

-- ---- Open
open_issued : (r : Request) (d : Desk) → d.issued ≤ last_ticket → (open_of r d).desk.issued ≤ last_ticket
unfolding open_of
open_issued r d l = go (sound_of d) (check_of r.condition) (ltb (first_from d false 0) seat_count) (ltb d.issued last_ticket) refl refl refl refl
  where
    go : (a : Bool) (b : Answer (Unit {0})) (x y : Bool) → sound_of d ≡ a → check_of r.condition ≡ b → ltb (first_from d false 0) seat_count ≡ x → ltb d.issued last_ticket ≡ y
        → (open_of r d).desk.issued ≤ last_ticket
    go false b x y e f g h = rw e l
    go true (refuses_for why) x y e f g h = rw (e, f) l
    go true (gives u) false y e f g h = rw (e, f, g) l
    go true (gives u) true false e f g h = rw (e, f, g, h) l
    go true (gives u) true true e f g h = rw (e, f, g, h) (let k : d.issued < last_ticket = ltb-true d.issued last_ticket h in omega arith)

pub open_ready : (f : Files) (r : Request) (d : Desk) → Ready f d → Ready f (open_of r d).desk
open_ready f r d o = record { sound = open_lasts d o.sound r; lengths = open_lengths f r d ∙ o.lengths; issued = open_issued r d o.issued }

pub opened_ready : (f : Files) (ls : List Line) (d : Desk) → Ready f d → Ready f (opened_all ls d)
unfolding opened_all
opened_ready f [] d o = o
opened_ready f (l ∷ ls) d o = opened_ready f ls (open_of (asking l.text) d).desk (open_ready f (asking l.text) d o)

-- ---- the start
pub fresh_ready : (f : Files) → length f.timetable ≤ max_timetable → Ready f (fresh_for f).desk
unfolding fresh_of
fresh_ready f l =
    let n = length f.timetable in
    rw (le-leb (length f.timetable) max_timetable l)
    (record { sound = sound_in (fresh_desk n) refl (fresh_sound n l); lengths = eq-eqb n n refl; issued = omega arith })
