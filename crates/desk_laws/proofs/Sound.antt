-- Soundness as a list of facts, both ways, and that it lasts where a seat is replaced by a good one.
use mathlib.Core.Path.{◌≡◌, refl, sym, ap, ◌∙◌}
use mathlib.Core.Bool.{Bool, true, false}
use mathlib.Core.Logic.{⊎_elim, ◌⊎◌, inl, inr}
use Prim.Native.Nat.{ℕ, ◌+◌, ◌*◌, ◌≤◌, ◌<◌}
use native.Mathlib.Decide.{ℕ_discrete}
use native.Mathlib.Omega.{arith}
use borrow.Author.Tests.{lt-ltb, le-leb, eq-eqb, ltb-true, eqb-true}
use lib.Dec.{eqb}
use lib.ListN.{length, set, length-set}
use lib.Seq.{get_or-set_same, get_or-set_other}
use Rattle.basis.specs.Choice.{pick, both, every}
use Rattle.basis.proofs.Tests.{both_left, both_right}
use Rattle.value_instants.specs.Ticks.{utc}
use Rattle.timetable.specs.Lines.{line_at}
use Rattle.timetable.proofs.Offsets.{next_within, next_further}
use Rattle.run_times.specs.Occurrences.{most_occurrences}
use Rattle.run_cases.proofs.Lines.{stands_for_few}
use Rattle.desk_seat.specs.Files.{Files}
use Rattle.desk_seat.specs.Bounds.{max_timetable}
use Rattle.desk_seat.specs.Conditions.{Result, hit, miss, unreadable}
use Rattle.desk_seat.specs.Soundness.{seat_sound}
use Rattle.desk_seat.specs.Serving.{has_line, onward_from, judged_as}
use Rattle.desk_seat.specs.declared.Seat.{Seat}
use Rattle.desk_seat.specs.declared.Spot.{Spot}
use Rattle.desk_seat.proofs.Soundness.{Servable, servable, was_issued, servable_sound}
use Rattle.desk_seat.proofs.Serving.{more_or_last, onward_more, onward_next}
use Rattle.desk.specs.Bounds.{seat_count}
use Rattle.desk.specs.Scan.{first_passing}
use Rattle.desk.specs.Seats.{seat_at, has_ticket, seat_of}
use Rattle.desk.specs.Soundness.{sound_at, sound_of}
use Rattle.desk.specs.declared.Desk.{Desk}
use Rattle.desk.proofs.Scans.{all_make, first_le, first_found}
use Rattle.desk.proofs.Soundness.{sound_last, sound_length, sound_at_lem, sound_seat}

pub record Sound (d : Desk) : Type 0 where
  pub size : length d.seats ≡ seat_count
  pub last_in : d.last_served < seat_count
  pub short : d.timetable_length ≤ max_timetable
  pub seat : (i : ℕ) → i < seat_count → (seat_at d i).held ≡ true → seat_sound d.issued d.timetable_length (seat_at d i) ≡ true
  pub apart : (i j : ℕ) → i < seat_count → j < seat_count → (seat_at d i).held ≡ true → (seat_at d j).held ≡ true
      → (seat_at d i).ticket ≡ (seat_at d j).ticket → i ≡ j

module _ (d : Desk) (h : sound_of d ≡ true) where
  -- a held seat of a sound desk is the first with its ticket
  pub own_seat : (i : ℕ) → i < seat_count → (seat_at d i).held ≡ true → seat_of d (seat_at d i).ticket ≡ i
  unfolding sound_at
  own_seat i l e =
      eqb-true _ _
      (both_left (eqb (seat_of d (seat_at d i).ticket) i) (seat_sound d.issued d.timetable_length (seat_at d i))
      (rw e at (sound_at_lem d h i l)))

module _ (d : Desk) (z : length d.seats ≡ seat_count) (h : sound_of d ≡ true) where
  pub sound_in : Sound d
  sound_in =
      record {
        size = z;
        last_in = sound_last d h;
        short = sound_length d h;
        seat = sound_seat d h;
        apart = λ i j li lj hi hj e. sym (own_seat d h i li hi) ∙ ap (seat_of d) e ∙ own_seat d h j lj hj;
      }

-- the first held seat with a ticket is a held seat with that ticket
pub seat_found : (d : Desk) (k : ℕ) → seat_of d k < seat_count → ((seat_at d (seat_of d k)).held ≡ true) × ((seat_at d (seat_of d k)).ticket ≡ k)
seat_found d k l =
    let i = seat_of d k in
    let m : first_passing (has_ticket d k) 0 seat_count < 0 + seat_count = l in
    let a = first_found (has_ticket d k) 0 seat_count m in
    (both_left (seat_at d i).held (eqb (seat_at d i).ticket k) a, eqb-true _ _ (both_right (seat_at d i).held (eqb (seat_at d i).ticket k) a))

module _ (d : Desk) (s : Sound d) where
  seat_is : (i : ℕ) → i < seat_count → (seat_at d i).held ≡ true → seat_of d (seat_at d i).ticket ≡ i
  unfolding both
  seat_is i l e =
      let k = (seat_at d i).ticket in
      let here : has_ticket d k i ≡ true = rw e (eq-eqb k k refl) in
      let le : seat_of d k ≤ i = first_le (has_ticket d k) 0 seat_count i (omega arith) here in
      let lt : seat_of d k < seat_count = omega arith in
      let f = seat_found d k lt in
      s.apart (seat_of d k) i lt l f.0 e f.1

  seat_ok : (i : ℕ) → i < seat_count → sound_at d i ≡ true
  unfolding sound_at both
  seat_ok i l = go (seat_at d i).held refl
    where
      go : (b : Bool) → (seat_at d i).held ≡ b
          → pick (seat_at d i).held (both (eqb (seat_of d (seat_at d i).ticket) i) (seat_sound d.issued d.timetable_length (seat_at d i))) true ≡ true
      go true e = rw (e, eq-eqb _ _ (seat_is i l e), s.seat i l e)
      go false e = rw e

  pub sound_out : sound_of d ≡ true
  unfolding sound_of every both
  sound_out = simp (lt-ltb _ _ s.last_in, le-leb _ _ s.short, all_make (sound_at d) seat_count seat_ok)

-- ---- a seat is replaced
-- more tickets issued
pub seat_mono : (k k' n : ℕ) (s : Seat) → k ≤ k' → seat_sound k n s ≡ true → seat_sound k' n s ≡ true
seat_mono k k' n s l h =
    let q = was_issued k n s h in
    servable_sound k' n s (omega arith) (servable k n s h)

abbrev pub replaced : Desk → ℕ → Seat → ℕ → ℕ → Desk
replaced d i s last issued =
    record { seats = set d.seats i s; last_served = last; timetable_length = d.timetable_length; issued = issued }

module _ (d : Desk) (o : Sound d) (i : ℕ) (li : i < seat_count) (s : Seat) (last issued : ℕ) where
  pub at_same : seat_at (replaced d i s last issued) i ≡ s
  at_same = get_or-set_same d.seats i s _ (omega (arith, o.size))

  pub at_other : (j : ℕ) → (j ≡ i → ⊥) → seat_at (replaced d i s last issued) j ≡ seat_at d j
  at_other j ne = get_or-set_other d.seats i j s _ ne

  -- of each number: the new seat, or the one that was there
  pub which : (j : ℕ) → ((j ≡ i) × (seat_at (replaced d i s last issued) j ≡ s)) ⊎ ((j ≡ i → ⊥) × (seat_at (replaced d i s last issued) j ≡ seat_at d j))
  which j = elim (ℕ_discrete j i) [ yes q ↦ inl (q, ap (seat_at (replaced d i s last issued)) q ∙ at_same) | no n ↦ inr (n, at_other j n) ]

  module _
      (ll : last < seat_count)
      (lk : d.issued ≤ issued)
      (good : s.held ≡ true → seat_sound issued d.timetable_length s ≡ true)
      (new : (j : ℕ) → j < seat_count → (j ≡ i → ⊥) → (seat_at d j).held ≡ true → s.held ≡ true → (seat_at d j).ticket ≡ s.ticket → ⊥)
    where
      pub replaced_sound : Sound (replaced d i s last issued)
      replaced_sound =
          record {
            size = length-set d.seats i s ∙ o.size;
            last_in = ll;
            short = o.short;
            seat = λ j lj hj.
                ⊎_elim (λ w. rw w.1 (good (rw w.1 at hj))) (λ w. rw w.1 (seat_mono _ _ _ _ lk (o.seat j lj (rw w.1 at hj)))) (which j);
            apart = λ j k lj l hj hk t.
                ⊎_elim
                (λ w.
                ⊎_elim (λ v. w.0 ∙ sym v.0)
                (λ v. absurd (new k l v.0 (rw v.1 at hk) (rw w.1 at hj) (sym (rw (w.1, v.1) at t))))
                (which k))
                (λ w.
                ⊎_elim (λ v. absurd (new j lj w.0 (rw w.1 at hj) (rw v.1 at hk) (rw (w.1, v.1) at t)))
                (λ v. o.apart j k lj l (rw w.1 at hj) (rw v.1 at hk) (rw (w.1, v.1) at t))
                (which k))
                (which j);
          }

-- ---- a seat that is served stays sound
-- where it goes on there is room for one count more
record Room (f : Files) (s : Seat) (to : Spot) : Type 0 where
  pub within : to.offset ≤ length f.timetable
  pub place : to.place < most_occurrences
  pub counts : s.hits + s.unreadable + 1 ≤ most_occurrences * to.offset + to.place

-- a line stands for at most 1,440 cases, and the next line is at least a byte further
room_on : (f : Files) (s : Seat) → has_line f s ≡ true → Servable (length f.timetable) s → Room f s (onward_from f s)
room_on f s l v =
    let t = f.timetable in
    let c = v.counts in
    let p = v.place in
    ⊎_elim
    (λ m.
    let few = stands_for_few utc (line_at t s.offset).text in
    rw (onward_more f s m) (record { within = v.within; place = omega arith; counts = omega arith }))
    (λ m.
    let further = next_further t s.offset (ltb-true _ _ l) in
    rw (onward_next f s m) (record { within = next_within t s.offset v.within; place = omega arith; counts = omega arith }))
    (more_or_last f s)

judged_in : (f : Files) (k : ℕ) (s : Seat) (to : Spot) (v : Result) → Room f s to → s.ticket ≤ k → Servable (length f.timetable) s
    → seat_sound k (length f.timetable) (judged_as to s v).seat ≡ true
judged_in f k s to hit r i v =
    let c = r.counts in
    servable_sound k (length f.timetable) (judged_as to s hit).seat i
    (record { numbered = v.numbered; good = v.good; room = v.room; within = r.within; place = r.place; counts = omega arith })
judged_in f k s to miss r i v =
    let c = r.counts in
    servable_sound k (length f.timetable) (judged_as to s miss).seat i
    (record { numbered = v.numbered; good = v.good; room = v.room; within = r.within; place = r.place; counts = omega arith })
judged_in f k s to (unreadable why) r i v =
    let c = r.counts in
    servable_sound k (length f.timetable) (judged_as to s (unreadable why)).seat i
    (record { numbered = v.numbered; good = v.good; room = v.room; within = r.within; place = r.place; counts = omega arith })

pub judged_sound : (f : Files) (k : ℕ) (s : Seat) (v : Result) → has_line f s ≡ true → seat_sound k (length f.timetable) s ≡ true
    → seat_sound k (length f.timetable) (judged_as (onward_from f s) s v).seat ≡ true
judged_sound f k s v l h =
    let x = servable k (length f.timetable) s h in
    judged_in f k s (onward_from f s) v (room_on f s l x) (was_issued k (length f.timetable) s h) x
