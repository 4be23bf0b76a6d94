-- One ticket followed through the calls: while it is held, in one seat, always of the same number, and once it is held no more. Another's
-- opening, closing or turn leaves both as they are; a turn of its own serves its seat.
use mathlib.Core.Path.{◌≡◌, refl, sym, ap, ◌∙◌, subst}
use mathlib.Core.Bool.{true, false, true≢false}
use mathlib.Core.List.{List, ◌∷◌}
use mathlib.Core.Logic.{⊎_elim}
use Prim.Native.Nat.{ℕ, ◌+◌, ◌%◌, ◌≤◌, ◌<◌}
use native.Mathlib.Omega.{arith}
use borrow.Author.Tests.{eq-eqb, ne_eqb}
use Rattle.basis.specs.Answer.{Answer, gives, refuses_for}
use Rattle.desk_seat.specs.Files.{Files}
use Rattle.desk_seat.specs.Request.{Request}
use Rattle.desk_seat.specs.Answers.{Turned, ticket_of}
use Rattle.desk_seat.specs.Seat.{free_seat, seat_for}
use Rattle.desk_seat.specs.Serving.{has_line, serve_of}
use Rattle.desk_seat.specs.declared.Seat.{Seat}
use Rattle.desk_seat.proofs.Serving.{on_held, on_ticket, off_free, served_ticket, served_answer}
use Rattle.desk.specs.Bounds.{seat_count}
use Rattle.desk.specs.Answers.{After}
use Rattle.desk.specs.Seats.{seat_at, held_is, first_from, seat_of}
use Rattle.desk.specs.Desk.{open_of, close_of, have_lengths, turn_of, after_step}
use Rattle.desk.specs.declared.Desk.{Desk}
use Rattle.desk.proofs.Scans.{first_le}
use Rattle.desk_laws.proofs.Sound.{Sound, seat_found, at_same, at_other, which}
use Rattle.desk_laws.proofs.Steps.{open_cases, was_free, opened_sound, old_ticket, close_cases, closed_sound, Turns, turns_if, turn_cases, turned_sound}
use Rattle.desk_fairness.specs.Events.{mine}
use Rattle.desk_fairness.proofs.Round.{dist, there, nearer, not_there}

-- ---- whose answer it is
-- the ticket that an answer names; 0 where it is a refusal
abbrev pub whose : Answer Turned → ℕ
whose (gives a) = ticket_of a
whose (refuses_for r) = 0

pub not_mine : (k : ℕ) (a : Answer Turned) (others : List Turned) → (whose a ≡ k → ⊥) → mine k a others ≡ others
not_mine k (gives a) others ne = rw (ne_eqb _ _ ne)
not_mine k (refuses_for r) others ne = refl

pub is_mine : (k : ℕ) (a : Turned) (others : List Turned) → ticket_of a ≡ k → mine k (gives a) others ≡ a ∷ others
is_mine k a others e = rw (eq-eqb _ _ e)

module _ (f : Files) (k : ℕ) (pos : 1 ≤ k) where
  -- ticket k is held by the seat s, which has number i
  pub record Track (d : Desk) (i : ℕ) (s : Seat) : Type 0 where
    pub sound : Sound d
    pub lengths : have_lengths f d ≡ true
    pub li : i < seat_count
    pub here : seat_at d i ≡ s
    pub held : s.held ≡ true
    pub tick : s.ticket ≡ k

  -- ticket k was issued, and is held no more
  pub record Gone (d : Desk) : Type 0 where
    pub sound : Sound d
    pub lengths : have_lengths f d ≡ true
    pub old : k ≤ d.issued
    pub none : (i : ℕ) → i < seat_count → (seat_at d i).held ≡ true → (seat_at d i).ticket ≡ k → ⊥

  -- ---- open
  pub gone_open : (c : Request) (d : Desk) → Gone d → Gone (open_of c d).desk
  gone_open c d g =
      ⊎_elim (λ n. rw n.1 g)
      (λ w.
      let o = g.sound in
      let p = first_from d false 0 in
      let b = g.old in
      rw w.is
      (record {
        sound = opened_sound c d o w;
        lengths = g.lengths;
        old = omega arith;
        none = λ i l h e.
            ⊎_elim (λ q. (let same = rw q.1 at e in omega arith)) (λ q. g.none i l (rw q.1 at h) (rw q.1 at e))
            (which d o p w.free (seat_for (d.issued + 1) c) d.last_served (d.issued + 1) i);
      }))
      (open_cases c d)

  pub track_open : (c : Request) (d : Desk) (i : ℕ) (s : Seat) → Track d i s
      → Track (open_of c d).desk i s × ((open_of c d).desk.last_served ≡ d.last_served)
  track_open c d i s r =
      ⊎_elim (λ n. rw n.1 (r, refl))
      (λ w.
      let o = r.sound in
      let p = first_from d false 0 in
      let ne : i ≡ p → ⊥ = λ q. true≢false (sym r.held ∙ sym (ap (λ (x : Seat). x.held) r.here) ∙ rw q (was_free c d o w)) in
      rw w.is (
        record {
          sound = opened_sound c d o w;
          lengths = r.lengths;
          li = r.li;
          here = at_other d o p w.free (seat_for (d.issued + 1) c) d.last_served (d.issued + 1) i ne ∙ r.here;
          held = r.held;
          tick = r.tick;
        },
        refl,
      ))
      (open_cases c d)

  -- ---- close
  pub gone_close : (j : ℕ) (d : Desk) → Gone d → Gone (close_of j d).desk
  gone_close j d g =
      ⊎_elim (λ n. rw n g)
      (λ w.
      let o = g.sound in
      rw w.1
      (record {
        sound = closed_sound d o (seat_of d j) w.0;
        lengths = g.lengths;
        old = g.old;
        none = λ i l h e.
            ⊎_elim (λ q. true≢false (sym (rw q.1 at h))) (λ q. g.none i l (rw q.1 at h) (rw q.1 at e))
            (which d o (seat_of d j) w.0 free_seat d.last_served d.issued i);
      }))
      (close_cases j d)

  pub track_close : (j : ℕ) (d : Desk) (i : ℕ) (s : Seat) → (j ≡ k → ⊥) → Track d i s
      → Track (close_of j d).desk i s × ((close_of j d).desk.last_served ≡ d.last_served)
  track_close j d i s nk r =
      ⊎_elim (λ n. rw n (r, refl))
      (λ w.
      let o = r.sound in
      let p = seat_of d j in
      let ne : i ≡ p → ⊥ = λ q.
      nk (sym (seat_found d j w.0).1 ∙ ap (λ (x : ℕ). (seat_at d x).ticket) (sym q) ∙ ap (λ (x : Seat). x.ticket) r.here ∙ r.tick)
      in
      rw w.1 (
        record {
          sound = closed_sound d o p w.0;
          lengths = r.lengths;
          li = r.li;
          here = at_other d o p w.0 free_seat d.last_served d.issued i ne ∙ r.here;
          held = r.held;
          tick = r.tick;
        },
        refl,
      ))
      (close_cases j d)

  -- ---- turn, once it is gone
  gone_served : (d : Desk) (g : Gone d) (w : Turns f d g.sound g.lengths) → Gone (turn_of f d).desk
  gone_served d g w =
      let o = g.sound in
      let i = first_from d true (d.last_served + 1) % seat_count in
      let s = seat_at d (first_from d true (d.last_served + 1) % seat_count) in
      let st : Sound (turn_of f d).desk = turned_sound f d o g.lengths w in
      rw w.is
      (record {
        sound = rw w.is at st;
        lengths = g.lengths;
        old = g.old;
        none = λ j l h q.
            ⊎_elim
            (λ v.
            let h2 : (serve_of f s).seat.held ≡ true = rw v.1 at h in
            g.none i (omega arith) w.held (sym (served_ticket f s h2) ∙ (rw v.1 at q)))
            (λ v. g.none j l (rw v.1 at h) (rw v.1 at q))
            (which d o i (omega arith) (serve_of f s).seat i d.issued j);
      })

  pub gone_turn : (d : Desk) → Gone d → Gone (turn_of f d).desk × (whose (turn_of f d).answer ≡ k → ⊥)
  gone_turn d g =
      ⊎_elim (λ n. rw n (g, (λ q. omega arith)))
      (λ w.
      let i = first_from d true (d.last_served + 1) % seat_count in
      let s = seat_at d (first_from d true (d.last_served + 1) % seat_count) in
      let here : (seat_at d i).ticket ≡ k → ⊥ = g.none i (omega arith) w.held in (
        gone_served d g w,
        λ q. here (sym (served_answer f s) ∙ ap whose (sym (ap (λ (x : After Turned). x.answer) w.is)) ∙ q),
      ))
      (turn_cases f d g.sound g.lengths)

  -- ---- turn, while it is held
  module _ (d : Desk) (i : ℕ) (s : Seat) (r : Track d i s) where
    pub reach : first_from d true (d.last_served + 1) ≤ d.last_served + dist d.last_served i
    reach =
        let o = r.sound in
        let l = r.li in
        let q : (d.last_served + dist d.last_served i) % seat_count ≡ i = there d.last_served i o.last_in r.li in
        let h : held_is d true (d.last_served + dist d.last_served i) ≡ true = rw (q, r.here, r.held) in
        first_le (held_is d true) (d.last_served + 1) seat_count (d.last_served + dist d.last_served i) (omega arith) h

    pub works : Turns f d r.sound r.lengths
    works = turns_if f d r.sound r.lengths (omega (arith, reach))

    -- the turn serves another
    module _ (l : first_from d true (d.last_served + 1) < d.last_served + dist d.last_served i) where
      away : i ≡ first_from d true (d.last_served + 1) % seat_count → ⊥
      away = not_there d.last_served i (first_from d true (d.last_served + 1)) r.sound.last_in r.li works.from l

      pub other_track : Track (turn_of f d).desk i s
      other_track =
          let p = first_from d true (d.last_served + 1) % seat_count in
          let o = r.sound in
          let st : Sound (turn_of f d).desk = turned_sound f d o r.lengths works in
          rw works.is
          (record {
            sound = rw works.is at st;
            lengths = r.lengths;
            li = r.li;
            here = at_other d o p (omega arith) (serve_of f (seat_at d p)).seat p d.issued i away ∙ r.here;
            held = r.held;
            tick = r.tick;
          })

      pub other_near : dist (turn_of f d).desk.last_served i < dist d.last_served i
      other_near =
          rw works.is (nearer d.last_served i (first_from d true (d.last_served + 1)) r.sound.last_in r.li works.from l)

      pub other_answer : whose (turn_of f d).answer ≡ k → ⊥
      other_answer =
          let p = first_from d true (d.last_served + 1) % seat_count in
          rw works.is
          (λ q.
          away
          (r.sound.apart i p r.li (omega arith) (rw r.here r.held) works.held
          (rw r.here (r.tick ∙ sym q ∙ served_answer f (seat_at d p)))))

    -- the turn serves it
    module _ (q : first_from d true (d.last_served + 1) % seat_count ≡ i) where
      at_it : turn_of f d ≡ after_step d i (serve_of f s)
      at_it = works.is ∙ rw (q, r.here)

      it_sound : Sound (after_step d i (serve_of f s)).desk
      it_sound = rw at_it at (turned_sound f d r.sound r.lengths works)

      pub it_track : has_line f s ≡ true → Track (turn_of f d).desk i (serve_of f s).seat
      it_track l =
          rw at_it
          (record {
            sound = it_sound;
            lengths = r.lengths;
            li = r.li;
            here = at_same d r.sound i r.li (serve_of f s).seat i d.issued;
            held = on_held f s l ∙ r.held;
            tick = on_ticket f s l ∙ r.tick;
          })

      pub it_gone : has_line f s ≡ false → Gone (turn_of f d).desk
      it_gone l =
          let o = r.sound in
          let u = old_ticket d o i r.li (rw r.here r.held) in
          rw at_it
          (record {
            sound = it_sound;
            lengths = r.lengths;
            old = subst (λ (x : ℕ). x ≤ d.issued) (ap (λ (x : Seat). x.ticket) r.here ∙ r.tick) u;
            none = λ j lj h q.
                ⊎_elim (λ v. true≢false (sym (rw v.1 at h) ∙ off_free f s l))
                (λ v. v.0 (o.apart j i lj r.li (rw v.1 at h) (rw r.here r.held) ((rw v.1 at q) ∙ sym (rw r.here r.tick))))
                (which d o i r.li (serve_of f s).seat i d.issued j);
          })

      pub it_answer : (turn_of f d).answer ≡ gives (serve_of f s).answer
      it_answer = rw at_it

      pub it_last : (turn_of f d).desk.last_served ≡ i
      it_last = rw at_it

      -- the other seats have what they had
      pub it_others : (j : ℕ) → (j ≡ i → ⊥) → seat_at (turn_of f d).desk j ≡ seat_at d j
      it_others j ne = rw at_it (at_other d r.sound i r.li (serve_of f s).seat i d.issued j ne)
