-- Every call on a sound desk hands back a sound desk, and no call alters a held seat that is not the one it is about:
-- another query's opening, closing and answers alter no seat of this one.
use mathlib.Core.Path.{◌≡◌, sym, ap, ◌∙◌}
use mathlib.Core.Bool.{true, false, true≢false}
use mathlib.Core.Logic.{⊎_elim}
use Prim.Native.Nat.{ℕ, ◌+◌, ◌%◌, ◌<◌}
use native.Mathlib.Omega.{arith}
use lib.ListN.{length}
use Rattle.basis.specs.Answer.{gives}
use Rattle.desk_seat.specs.Files.{Files}
use Rattle.desk_seat.specs.Request.{Request}
use Rattle.desk_seat.specs.Answers.{Turned, ticket_of}
use Rattle.desk_seat.specs.Seat.{free_seat, seat_for}
use Rattle.desk_seat.specs.Serving.{serve_of}
use Rattle.desk_seat.proofs.Serving.{served_answer}
use Rattle.desk.specs.Bounds.{seat_count}
use Rattle.desk.specs.Answers.{After}
use Rattle.desk.specs.Seats.{seat_at, first_from, seat_of}
use Rattle.desk.specs.Soundness.{sound_of}
use Rattle.desk.specs.Desk.{open_of, close_of, turn_of}
use Rattle.desk.specs.declared.Desk.{Desk}
use Rattle.desk_laws.proofs.Sound.{Sound, sound_in, sound_out, seat_found, at_other}
use Rattle.desk_laws.proofs.Steps.{open_cases, was_free, opened_sound, close_cases, closed_sound, turn_cases, turned_sound, turn_refused}

module _ (d : Desk) (o : Sound d) where
  pub open_lasts : (r : Request) → Sound (open_of r d).desk
  open_lasts r = ⊎_elim (λ n. rw n.1 o) (λ w. rw w.is (opened_sound r d o w)) (open_cases r d)

  pub close_lasts : (k : ℕ) → Sound (close_of k d).desk
  close_lasts k = ⊎_elim (λ n. rw n o) (λ w. rw w.1 (closed_sound d o (seat_of d k) w.0)) (close_cases k d)

  pub turn_lasts : (f : Files) → Sound (turn_of f d).desk
  turn_lasts f =
      ⊎_elim (λ e. ⊎_elim (λ n. rw n o) (λ w. turned_sound f d o e w) (turn_cases f d o e)) (λ n. rw n.1 o) (turn_refused f d)

-- ---- a sound desk of 16 seats is handed back as a sound desk of 16 seats
module _ (d : Desk) (z : length d.seats ≡ seat_count) (h : sound_of d ≡ true) where
  pub open_keeps_sound : (r : Request) → sound_of (open_of r d).desk ≡ true
  open_keeps_sound r = sound_out (open_of r d).desk (open_lasts d (sound_in d z h) r)

  pub close_keeps_sound : (k : ℕ) → sound_of (close_of k d).desk ≡ true
  close_keeps_sound k = sound_out (close_of k d).desk (close_lasts d (sound_in d z h) k)

  pub turn_keeps_sound : (f : Files) → sound_of (turn_of f d).desk ≡ true
  turn_keeps_sound f = sound_out (turn_of f d).desk (turn_lasts d (sound_in d z h) f)

-- ---- another query's seat
module _ (d : Desk) (o : Sound d) (i : ℕ) (li : i < seat_count) (held : (seat_at d i).held ≡ true) where
  pub open_alters_no_held : (r : Request) → seat_at (open_of r d).desk i ≡ seat_at d i
  open_alters_no_held r =
      ⊎_elim (λ n. rw n.1)
      (λ w.
      let p = first_from d false 0 in
      let ne : i ≡ p → ⊥ = λ q. true≢false (sym held ∙ rw q (was_free r d o w)) in
      rw w.is (at_other d o p w.free (seat_for (d.issued + 1) r) d.last_served (d.issued + 1) i ne))
      (open_cases r d)

  pub close_alters_no_other : (k : ℕ) → ((seat_at d i).ticket ≡ k → ⊥) → seat_at (close_of k d).desk i ≡ seat_at d i
  close_alters_no_other k nk =
      ⊎_elim (λ n. rw n)
      (λ w.
      let p = seat_of d k in
      let ne : i ≡ p → ⊥ = λ q. nk (ap (λ (x : ℕ). (seat_at d x).ticket) q ∙ (seat_found d k w.0).1) in
      rw w.1 (at_other d o p w.0 free_seat d.last_served d.issued i ne))
      (close_cases k d)

  pub turn_alters_no_other : (f : Files) (a : Turned) → (turn_of f d).answer ≡ gives a → (ticket_of a ≡ (seat_at d i).ticket → ⊥)
      → seat_at (turn_of f d).desk i ≡ seat_at d i
  turn_alters_no_other f a says na =
      ⊎_elim
      (λ e.
      ⊎_elim (λ n. rw n)
      (λ w.
      let p = first_from d true (d.last_served + 1) % seat_count in
      let g : gives (serve_of f (seat_at d p)).answer ≡ gives a = sym (ap (λ (x : After Turned). x.answer) w.is) ∙ says in
      let q : (serve_of f (seat_at d p)).answer ≡ a = cc in
      let ne : i ≡ p → ⊥ = λ r. na (rw (← q) (served_answer f (seat_at d p) ∙ ap (λ (x : ℕ). (seat_at d x).ticket) (sym r))) in
      rw w.is (at_other d o p (omega arith) (serve_of f (seat_at d p)).seat p d.issued i ne))
      (turn_cases f d o e))
      (λ n. rw n.1)
      (turn_refused f d)
