-- What each call does to a sound desk, by cases: refused it alters nothing, else it replaces one seat. The desk stays sound.
use mathlib.Core.Path.{◌≡◌, refl, sym, ◌∙◌, subst}
use mathlib.Core.Bool.{Bool, true, false, true≢false}
use mathlib.Core.Logic.{⊎_elim, ◌⊎◌, inl, inr}
use Prim.Native.Nat.{ℕ, ◌+◌, ◌%◌, ◌≤◌, ◌<◌}
use native.Mathlib.Omega.{arith}
use borrow.Author.Tests.{lt-ltb, ltb-true}
use lib.Dec.{ltb}
use lib.ListN.{length}
use lib.Seq.{take-append_seam}
use Rattle.basis.specs.Answer.{Reason, Answer, gives, refuses_for, only_number}
use Rattle.value.specs.Refusals.{no_seat, wrong_timetable, not_sound, no_more_tickets}
use Rattle.desk_seat.specs.Files.{Files}
use Rattle.desk_seat.specs.Request.{Request}
use Rattle.desk_seat.specs.Conditions.{accepted, check_of}
use Rattle.desk_seat.specs.Answers.{idle}
use Rattle.desk_seat.specs.Seat.{free_seat, seat_for}
use Rattle.desk_seat.specs.Soundness.{seat_sound}
use Rattle.desk_seat.specs.Serving.{seat_result, serve_of}
use Rattle.desk_seat.specs.declared.Seat.{Seat}
use Rattle.desk_seat.proofs.Conditions.{checked_accepted, accepted_fits}
use Rattle.desk_seat.proofs.Soundness.{was_issued, servable_sound}
use Rattle.desk_seat.proofs.Serving.{line_or_done, serve_line, off_free, served_ticket}
use Rattle.desk.specs.Bounds.{seat_count, last_ticket}
use Rattle.desk.specs.Scan.{first_passing}
use Rattle.desk.specs.Seats.{seat_at, held_is, first_from, seat_of}
use Rattle.desk.specs.Soundness.{sound_of}
use Rattle.desk.specs.Desk.{refused_for, refused, open_of, close_of, after_step, turn_at, next_of, have_lengths, turn_of}
use Rattle.desk.specs.declared.Desk.{Desk}
use Rattle.desk.proofs.Scans.{beq_true, beq_false, first_ge, first_found}
use Rattle.desk.proofs.Lengths.{lengths_same}
use Rattle.desk_laws.proofs.Sound.{Sound, sound_out, replaced, replaced_sound, judged_sound}

-- ---- serving a seat
served_good : (f : Files) (s : Seat) (k : ℕ) → seat_sound k (length f.timetable) s ≡ true → (serve_of f s).seat.held ≡ true
    → seat_sound k (length f.timetable) (serve_of f s).seat ≡ true
served_good f s k h e =
    ⊎_elim (λ l. rw (serve_line f s l) (judged_sound f k s (seat_result f s) l h)) (λ l. absurd (true≢false (sym e ∙ off_free f s l)))
    (line_or_done f s)

-- ---- open
pub record Seated (r : Request) (d : Desk) : Type 0 where
  pub sound : sound_of d ≡ true
  pub good : accepted r.condition ≡ true
  pub free : first_from d false 0 < seat_count
  pub is : open_of r d ≡ record { desk = replaced d (first_from d false 0) (seat_for (d.issued + 1) r) d.last_served (d.issued + 1); answer = gives (d.issued + 1) }

open_checked_lem : (r : Request) (d : Desk) (a : Answer (Unit {0})) → sound_of d ≡ true → check_of r.condition ≡ a
    → ((why : Reason) × (open_of r d ≡ refused_for d why)) ⊎ Seated r d
unfolding open_of
open_checked_lem r d (refuses_for why) e f = inl (why, rw (e, f))
open_checked_lem r d (gives u) e f = go (ltb (first_from d false 0) seat_count) (ltb d.issued last_ticket) refl refl
  where
    go : (x y : Bool) → ltb (first_from d false 0) seat_count ≡ x → ltb d.issued last_ticket ≡ y → ((why : Reason) × (open_of r d ≡ refused_for d why)) ⊎ Seated r d
    go false y g h = inl (only_number no_seat, rw (e, f, g))
    go true false g h = inl (only_number no_more_tickets, rw (e, f, g, h))
    go true true g h =
        inr (record { sound = e; good = checked_accepted r.condition u f; free = ltb-true _ _ g; is = rw (e, f, g, h) })

pub open_cases : (r : Request) (d : Desk) → ((why : Reason) × (open_of r d ≡ refused_for d why)) ⊎ Seated r d
unfolding open_of
open_cases r d = go (sound_of d) refl
  where
    go : (a : Bool) → sound_of d ≡ a → ((why : Reason) × (open_of r d ≡ refused_for d why)) ⊎ Seated r d
    go false e = inl (only_number not_sound, rw e)
    go true e = open_checked_lem r d (check_of r.condition) e refl

pub old_ticket : (d : Desk) (o : Sound d) (j : ℕ) → j < seat_count → (seat_at d j).held ≡ true → (seat_at d j).ticket ≤ d.issued
old_ticket d o j lj hj = was_issued _ _ _ (o.seat j lj hj)

module _ (r : Request) (d : Desk) (o : Sound d) (w : Seated r d) where
  -- the seat that open takes was free
  pub was_free : (seat_at d (first_from d false 0)).held ≡ false
  was_free =
      let i = first_from d false 0 in
      let m : first_passing (held_is d false) 0 seat_count < 0 + seat_count = w.free in
      let h = beq_false (seat_at d (i % seat_count)).held (first_found (held_is d false) 0 seat_count m) in
      let l = w.free in
      let e : i % seat_count ≡ i = omega arith in
      rw e at h

  new_good : seat_sound (d.issued + 1) d.timetable_length (seat_for (d.issued + 1) r) ≡ true
  new_good =
      servable_sound (d.issued + 1) d.timetable_length (seat_for (d.issued + 1) r) (omega arith)
      (record {
        numbered = omega arith;
        good = rw take-append_seam w.good;
        room = accepted_fits r.condition w.good;
        within = omega arith;
        place = omega arith;
        counts = omega arith;
      })

  pub opened_sound : Sound (replaced d (first_from d false 0) (seat_for (d.issued + 1) r) d.last_served (d.issued + 1))
  opened_sound =
      replaced_sound d o (first_from d false 0) w.free (seat_for (d.issued + 1) r) d.last_served (d.issued + 1) o.last_in (omega arith)
      (λ h. new_good)
      (λ j lj ne hj hs e. (let m = old_ticket d o j lj hj in omega arith))

-- ---- close
pub close_cases : (k : ℕ) (d : Desk) → ((close_of k d).desk ≡ d)
    ⊎ ((seat_of d k < seat_count) × ((close_of k d).desk ≡ replaced d (seat_of d k) free_seat d.last_served d.issued))
unfolding close_of
close_cases k d = go (sound_of d) (ltb (seat_of d k) seat_count) refl refl
  where
    go : (a b : Bool) → sound_of d ≡ a → ltb (seat_of d k) seat_count ≡ b → ((close_of k d).desk ≡ d)
        ⊎ ((seat_of d k < seat_count) × ((close_of k d).desk ≡ replaced d (seat_of d k) free_seat d.last_served d.issued))
    go false b e f = inl (rw e)
    go true false e f = inl (rw (e, f))
    go true true e f = inr (ltb-true _ _ f, rw (e, f))

pub closed_sound : (d : Desk) (o : Sound d) (i : ℕ) → i < seat_count → Sound (replaced d i free_seat d.last_served d.issued)
closed_sound d o i l =
    replaced_sound d o i l free_seat d.last_served d.issued o.last_in (omega arith) (λ h. absurd (true≢false (sym h)))
    (λ j lj ne hj hs e. true≢false (sym hs))

-- ---- turn
module _ (f : Files) (d : Desk) (o : Sound d) (e : have_lengths f d ≡ true) where
  pub turn_next : turn_of f d ≡ next_of f d
  unfolding turn_of
  turn_next = rw (sound_out d o, e)

  turn_at_lem : turn_of f d ≡ turn_at f d (first_from d true (d.last_served + 1))
  unfolding next_of
  turn_at_lem = turn_next

  pub record Turns : Type 0 where
    pub from : d.last_served < first_from d true (d.last_served + 1)
    pub below : first_from d true (d.last_served + 1) < d.last_served + 1 + seat_count
    pub held : (seat_at d (first_from d true (d.last_served + 1) % seat_count)).held ≡ true
    pub is : turn_of f d ≡ after_step d (first_from d true (d.last_served + 1) % seat_count) (serve_of f (seat_at d (first_from d true (d.last_served + 1) % seat_count)))

  pub turns_if : first_from d true (d.last_served + 1) < d.last_served + 1 + seat_count → Turns
  turns_if l =
      let j = first_from d true (d.last_served + 1) in
      let m : first_passing (held_is d true) (d.last_served + 1) seat_count < d.last_served + 1 + seat_count = omega arith in
      let g : d.last_served + 1 ≤ j = first_ge (held_is d true) (d.last_served + 1) seat_count in
      record {
        from = omega arith;
        below = l;
        held = beq_true _ (first_found (held_is d true) (d.last_served + 1) seat_count m);
        is = turn_at_lem ∙ rw (lt-ltb _ _ l);
      }

  pub turn_cases : (turn_of f d ≡ record { desk = d; answer = gives idle }) ⊎ Turns
  turn_cases = go (ltb (first_from d true (d.last_served + 1)) (d.last_served + 1 + seat_count)) refl
    where
      go : (b : Bool) → ltb (first_from d true (d.last_served + 1)) (d.last_served + 1 + seat_count) ≡ b
          → (turn_of f d ≡ record { desk = d; answer = gives idle }) ⊎ Turns
      go false h = inl (turn_at_lem ∙ rw h)
      go true h = inr (turns_if (ltb-true _ _ h))

  module _ (w : Turns) where
    pub turned_sound : Sound (turn_of f d).desk
    turned_sound =
        let i = first_from d true (d.last_served + 1) % seat_count in
        let s = seat_at d (first_from d true (d.last_served + 1) % seat_count) in
        let same = lengths_same f d e in
        rw w.is
        (replaced_sound d o i (omega arith) (serve_of f s).seat i d.issued (omega arith) (omega arith)
        (λ h. subst (λ (n : ℕ). seat_sound d.issued n (serve_of f s).seat ≡ true) same
        (served_good f s d.issued (rw same (o.seat i (omega arith) w.held)) h))
        (λ j lj ne hj hs q. ne (o.apart j i lj (omega arith) hj w.held (q ∙ served_ticket f s hs))))

-- a turn over files of other lengths is refused
pub turn_refused : (f : Files) (d : Desk) → (have_lengths f d ≡ true) ⊎ ((n : ℕ) × (turn_of f d ≡ refused d n))
unfolding turn_of
turn_refused f d = go (sound_of d) (have_lengths f d) refl refl
  where
    go : (a b : Bool) → sound_of d ≡ a → have_lengths f d ≡ b → (have_lengths f d ≡ true) ⊎ ((n : ℕ) × (turn_of f d ≡ refused d n))
    go false b g h = inr (not_sound, rw g)
    go true false g h = inr (wrong_timetable, rw (g, h))
    go true true g h = inl h

-- a turn keeps the lengths, and issues no ticket
abbrev Keeps : Files → Desk → Desk → Type 0
Keeps f a d = (have_lengths f a ≡ have_lengths f d) × (a.issued ≡ d.issued)

turn_keeps : (f g : Files) (d : Desk) → Keeps g (turn_of f d).desk d
unfolding turn_of next_of
turn_keeps f g d =
    go (sound_of d) (have_lengths f d) (ltb (first_from d true (d.last_served + 1)) (d.last_served + 1 + seat_count)) refl refl refl
  where
    go : (a b x : Bool) → sound_of d ≡ a → have_lengths f d ≡ b
        → ltb (first_from d true (d.last_served + 1)) (d.last_served + 1 + seat_count) ≡ x → Keeps g (turn_of f d).desk d
    go false b x e l h = rw e (refl, refl)
    go true false x e l h = rw (e, l) (refl, refl)
    go true true false e l h = rw (e, l, h) (refl, refl)
    go true true true e l h = rw (e, l, h) (refl, refl)

pub turn_lengths : (f g : Files) (d : Desk) → have_lengths g (turn_of f d).desk ≡ have_lengths g d
turn_lengths f g d = (turn_keeps f g d).0

pub turn_issued : (f : Files) (d : Desk) → (turn_of f d).desk.issued ≡ d.issued
turn_issued f d = (turn_keeps f f d).1

-- and so does open keep them
pub open_lengths : (f : Files) (r : Request) (d : Desk) → have_lengths f (open_of r d).desk ≡ have_lengths f d
open_lengths f r d = ⊎_elim (λ n. rw n.1) (λ w. rw w.is) (open_cases r d)
