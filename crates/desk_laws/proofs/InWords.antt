-- The calls in the words of document 01: which seat the definitions look for, and which number is given when.
use mathlib.Core.Path.{◌≡◌, refl, sym, ap, ◌∙◌}
use mathlib.Core.Bool.{Bool, true, false, true≢false}
use Prim.Native.Nat.{ℕ, ◌+◌, ◌-◌, ◌%◌, ◌≤◌, ◌<◌}
use native.Mathlib.Omega.{arith}
use borrow.Author.Tests.{lt-ltb, le-ltb, le-leb, lt-leb, eq-eqb, leb-false, ltb-true, ltb-false}
use lib.Dec.{leb, ltb}
use Rattle.basis.specs.Choice.{both}
use Rattle.basis.specs.Answer.{Reason, Answer, gives, refuses_for, only_number, refuses}
use Rattle.basis.proofs.Answers.{refuses_same, refuses_number}
use Rattle.value.specs.Refusals.{no_seat, wrong_timetable, not_sound, no_ticket, no_more_tickets}
use Rattle.desk_seat.specs.Files.{Files}
use Rattle.desk_seat.specs.Request.{Request}
use Rattle.desk_seat.specs.Bounds.{max_timetable}
use Rattle.desk_seat.specs.Conditions.{accepted, check_of}
use Rattle.desk_seat.specs.Answers.{idle, ticket_of}
use Rattle.desk_seat.specs.Serving.{serve_of}
use Rattle.desk_seat.proofs.Conditions.{accepted_checked, checked_accepted}
use Rattle.desk_seat.proofs.Soundness.{servable}
use Rattle.desk_seat.proofs.Serving.{served_answer}
use Rattle.desk.specs.Bounds.{seat_count, last_ticket}
use Rattle.desk.specs.Scan.{first_passing}
use Rattle.desk.specs.Seats.{seat_at, held_is, first_from, has_ticket, seat_of}
use Rattle.desk.specs.Soundness.{sound_of}
use Rattle.desk.specs.Desk.{no_desk, fresh_of, open_of, close_of, next_of, have_lengths, turn_of}
use Rattle.desk.specs.declared.Desk.{Desk}
use Rattle.desk.proofs.Scans.{beq_true, beq_false, beq_other, beq_neither, first_le, first_found, first_before, first_is, first_none}
use Rattle.desk.proofs.Soundness.{sound_last, sound_seat}
use Rattle.desk.proofs.Lengths.{lengths_same, same_lengths, other_lengths, lengths_other}
use Rattle.desk_laws.specs.InWords.{AllHeld, NoneHeld, SomeFree, NoneHas, LowestFree, on_from, NextHeld, OfItsLength, FreshInWords, OpenInWords, CloseInWords, TurnInWords, HandsBack, RefusedAltersNothing}
use Rattle.desk_laws.proofs.OwnNumbers.{own_low}
use Rattle.desk_laws.proofs.Sound.{own_seat, seat_found}
use Rattle.desk_laws.proofs.NewDesk.{no_desk_sound}

-- ---- one answer, one number
one_number : {A : Type 0} {a : Answer A} (r s : Reason) → a ≡ refuses_for r → a ≡ refuses_for s → r.number ≡ s.number
one_number r s e f = ap (λ (x : Reason). x.number) (refuses_same r s (sym e ∙ f))

same_number : {A : Type 0} {a : Answer A} (m n : ℕ) → a ≡ refuses m → a ≡ refuses n → m ≡ n
same_number m n e f = refuses_number m n (sym e ∙ f)

abbrev is_given : {A : Type 0} → Answer A → Bool
is_given (gives x) = true
is_given (refuses_for r) = false

given_no : {A : Type 0} {a : Answer A} {r : Reason} → is_given a ≡ true → a ≡ refuses_for r → ⊥
given_no e f = true≢false (sym e ∙ ap is_given f)

refused_no : {A : Type 0} {a : Answer A} {x : A} → is_given a ≡ false → a ≡ gives x → ⊥
refused_no e f = true≢false (sym (ap is_given f) ∙ e)

-- ---- which seat it is
module _ (d : Desk) where
  -- the first free seat, looked for from number 0 on
  none_free : AllHeld d → first_from d false 0 ≡ seat_count
  none_free h =
      first_none (held_is d false) 0 seat_count
      (λ j l m. (let e : j % seat_count ≡ j = omega arith in rw (e, h j (omega arith))))

  all_held : seat_count ≤ first_from d false 0 → AllHeld d
  all_held l i m =
      let e : i % seat_count ≡ i = omega arith in
      let f : held_is d false i ≡ false = first_before (held_is d false) 0 seat_count i (omega arith) (omega arith) in
      beq_other _ (rw e at f)

  free_found : SomeFree d → first_from d false 0 < seat_count
  free_found w =
      let i = w.0 in
      let m = w.1 in
      let e : i % seat_count ≡ i = omega arith in
      let h : held_is d false i ≡ true = rw (e, w.2) in
      let l = first_le (held_is d false) 0 seat_count i (omega arith) h in
      omega arith

  found_free : first_from d false 0 < seat_count → SomeFree d
  found_free l =
      let i = first_from d false 0 in
      let m : first_passing (held_is d false) 0 seat_count < 0 + seat_count = l in
      let e : i % seat_count ≡ i = omega arith in
      (i, l, rw e at (beq_false (seat_at d (i % seat_count)).held (first_found (held_is d false) 0 seat_count m)))

  lowest : (i : ℕ) → LowestFree d i → first_from d false 0 ≡ i
  lowest i w =
      let m = w.among in
      let e : i % seat_count ≡ i = omega arith in
      let h : held_is d false i ≡ true = rw (e, w.free) in
      first_is (held_is d false) 0 seat_count i (omega arith) (omega arith) h
      (λ j l b. (let f : j % seat_count ≡ j = omega arith in rw (f, w.below j b)))

  -- a ticket's seat
  none_has : (k : ℕ) → seat_count ≤ seat_of d k → NoneHas d k
  unfolding both
  none_has k l i m h e =
      let t : has_ticket d k i ≡ true = rw h (eq-eqb _ _ e) in
      let b = first_le (has_ticket d k) 0 seat_count i (omega arith) t in
      omega arith

  has_none : (k : ℕ) → NoneHas d k → ltb (seat_of d k) seat_count ≡ false
  has_none k h = go (ltb (seat_of d k) seat_count) refl
    where
      go : (b : Bool) → ltb (seat_of d k) seat_count ≡ b → ltb (seat_of d k) seat_count ≡ false
      go false e = e
      go true e =
          let l = ltb-true (seat_of d k) seat_count e in
          let f = seat_found d k l in
          absurd (h (seat_of d k) l f.0 f.1)

  -- the round after the last served
  module _ (last : d.last_served < seat_count) where
    nobody_next : NoneHeld d → first_from d true (d.last_served + 1) ≡ d.last_served + 1 + seat_count
    nobody_next h =
        first_none (held_is d true) (d.last_served + 1) seat_count (λ j l m. rw (h (j % seat_count) (omega arith)))

    next_nobody : d.last_served + 1 + seat_count ≤ first_from d true (d.last_served + 1) → NoneHeld d
    next_nobody l i m =
        let n = (i + 15 - d.last_served) % seat_count + 1 in
        let e : (d.last_served + n) % seat_count ≡ i = omega arith in
        let f : held_is d true (d.last_served + n) ≡ false =
        first_before (held_is d true) (d.last_served + 1) seat_count (d.last_served + n) (omega arith) (omega arith) in
        beq_neither _ (rw e at f)

    next_is : (n : ℕ) → NextHeld d n → first_from d true (d.last_served + 1) ≡ d.last_served + n
    next_is n w =
        let a = w.from in
        let b = w.within in
        let h : held_is d true (d.last_served + n) ≡ true = rw w.held in
        first_is (held_is d true) (d.last_served + 1) seat_count (d.last_served + n) (omega arith) (omega arith) h
        (λ j l m.
        let e : d.last_served + (j - d.last_served) ≡ j = omega arith in
        let f : (seat_at d (on_from d (j - d.last_served))).held ≡ false = w.passed (j - d.last_served) (omega arith) (omega arith) in
        let g : (seat_at d (j % seat_count)).held ≡ false = rw e at f in
        rw g)

-- ---- a fresh desk
pub fresh_in_words : (long : ℕ) → FreshInWords long
unfolding fresh_of
fresh_in_words long =
    record {
      too_long = record { only = λ e. go (leb long max_timetable) refl e; always = λ l. rw (lt-leb long max_timetable l) };
      made = λ l. rw (le-leb long max_timetable l);
    }
  where
    go : (b : Bool) → leb long max_timetable ≡ b → (fresh_of long).answer ≡ refuses wrong_timetable → max_timetable < long
    go false f e = leb-false long max_timetable f
    go true f e = absurd (given_no (rw f) e)

-- ---- open, by the four tests of its definition
data Opens (r : Request) (d : Desk) : Type 0 where
  unsound : sound_of d ≡ false → (open_of r d).answer ≡ refuses not_sound → (open_of r d).desk ≡ d → Opens r d
  own : (why : Reason) → sound_of d ≡ true → check_of r.condition ≡ refuses_for why → (open_of r d).answer ≡ refuses_for why → (open_of r d).desk ≡ d → Opens r d
  full : sound_of d ≡ true → accepted r.condition ≡ true → seat_count ≤ first_from d false 0 → (open_of r d).answer ≡ refuses no_seat → (open_of r d).desk ≡ d → Opens r d
  spent : sound_of d ≡ true → accepted r.condition ≡ true → first_from d false 0 < seat_count → last_ticket ≤ d.issued
      → (open_of r d).answer ≡ refuses no_more_tickets → (open_of r d).desk ≡ d → Opens r d
  given : (open_of r d).answer ≡ gives (d.issued + 1) → Opens r d

module _ (r : Request) (d : Desk) where
  opens_checked : (a : Answer (Unit {0})) → sound_of d ≡ true → check_of r.condition ≡ a → Opens r d
  unfolding open_of
  opens_checked (refuses_for why) e f = own why e f (rw (e, f)) (rw (e, f))
  opens_checked (gives u) e f = go (ltb (first_from d false 0) seat_count) (ltb d.issued last_ticket) refl refl
    where
      go : (x y : Bool) → ltb (first_from d false 0) seat_count ≡ x → ltb d.issued last_ticket ≡ y → Opens r d
      go false y g h = full e (checked_accepted r.condition u f) (ltb-false _ _ g) (rw (e, f, g)) (rw (e, f, g))
      go true false g h = spent e (checked_accepted r.condition u f) (ltb-true _ _ g) (ltb-false _ _ h) (rw (e, f, g, h)) (rw (e, f, g, h))
      go true true g h = given (rw (e, f, g, h))

  opens : Opens r d
  unfolding open_of
  opens = go (sound_of d) refl
    where
      go : (a : Bool) → sound_of d ≡ a → Opens r d
      go false e = unsound e (rw e) (rw e)
      go true e = opens_checked (check_of r.condition) e refl

  not_sound_if : Opens r d → (open_of r d).answer ≡ refuses not_sound → sound_of d ≡ false
  not_sound_if (unsound s e k) h = s
  not_sound_if (own why s f e k) h = absurd (omega (arith, own_low r.condition why f, one_number why (only_number not_sound) e h))
  not_sound_if (full s g l e k) h = absurd (omega (arith, same_number no_seat not_sound e h))
  not_sound_if (spent s g l i e k) h = absurd (omega (arith, same_number no_more_tickets not_sound e h))
  not_sound_if (given e) h = absurd (given_no (ap is_given e) h)

  own_if : (why : Reason) → check_of r.condition ≡ refuses_for why → Opens r d → (open_of r d).answer ≡ refuses_for why → sound_of d ≡ true
  own_if why f (unsound s e k) h = absurd (omega (arith, own_low r.condition why f, one_number (only_number not_sound) why e h))
  own_if why f (own its s g e k) h = s
  own_if why f (full s g l e k) h = s
  own_if why f (spent s g l i e k) h = s
  own_if why f (given e) h = absurd (given_no (ap is_given e) h)

  full_if : Opens r d → (open_of r d).answer ≡ refuses no_seat → (sound_of d ≡ true) × (accepted r.condition ≡ true) × AllHeld d
  full_if (unsound s e k) h = absurd (omega (arith, same_number not_sound no_seat e h))
  full_if (own why s f e k) h = absurd (omega (arith, own_low r.condition why f, one_number why (only_number no_seat) e h))
  full_if (full s g l e k) h = (s, g, all_held d l)
  full_if (spent s g l i e k) h = absurd (omega (arith, same_number no_more_tickets no_seat e h))
  full_if (given e) h = absurd (given_no (ap is_given e) h)

  spent_if : Opens r d → (open_of r d).answer ≡ refuses no_more_tickets
      → (sound_of d ≡ true) × (accepted r.condition ≡ true) × SomeFree d × (last_ticket ≤ d.issued)
  spent_if (unsound s e k) h = absurd (omega (arith, same_number not_sound no_more_tickets e h))
  spent_if (own why s f e k) h = absurd (omega (arith, own_low r.condition why f, one_number why (only_number no_more_tickets) e h))
  spent_if (full s g l e k) h = absurd (omega (arith, same_number no_seat no_more_tickets e h))
  spent_if (spent s g l i e k) h = (s, g, found_free d l, i)
  spent_if (given e) h = absurd (given_no (ap is_given e) h)

  open_back : Opens r d → HandsBack d (open_of r d)
  open_back (unsound s e k) why h = k
  open_back (own its s f e k) why h = k
  open_back (full s g l e k) why h = k
  open_back (spent s g l i e k) why h = k
  open_back (given e) why h = absurd (given_no (ap is_given e) h)

  pub open_in_words : OpenInWords r d
  unfolding open_of
  open_in_words =
      record {
        unsound = record { only = not_sound_if opens; always = λ e. rw e };
        own = λ why f. record { only = own_if why f opens; always = λ e. rw (e, f) };
        full = record {
          only = full_if opens;
          always = λ w.
              let l : seat_count ≤ first_from d false 0 = omega (arith, none_free d w.2) in
              rw (w.0, accepted_checked r.condition w.1, le-ltb _ _ l);
        };
        spent = record {
          only = spent_if opens;
          always = λ w. rw (w.0, accepted_checked r.condition w.1, lt-ltb _ _ (free_found d w.2), le-ltb _ _ w.3);
        };
        takes = λ i s g w l.
            let m = w.among in
            rw (s, accepted_checked r.condition g, lowest d i w, lt-ltb i seat_count m, lt-ltb _ _ l);
      }

-- ---- close
module _ (k : ℕ) (d : Desk) where
  close_unsound : (close_of k d).answer ≡ refuses not_sound → sound_of d ≡ false
  unfolding close_of
  close_unsound h = go (sound_of d) (ltb (seat_of d k) seat_count) refl refl
    where
      go : (a b : Bool) → sound_of d ≡ a → ltb (seat_of d k) seat_count ≡ b → sound_of d ≡ false
      go false b e f = e
      go true false e f = absurd (omega (arith, same_number no_ticket not_sound (rw (e, f)) h))
      go true true e f = absurd (given_no (rw (e, f)) h)

  close_nobody : (close_of k d).answer ≡ refuses no_ticket → (sound_of d ≡ true) × NoneHas d k
  unfolding close_of
  close_nobody h = go (sound_of d) (ltb (seat_of d k) seat_count) refl refl
    where
      go : (a b : Bool) → sound_of d ≡ a → ltb (seat_of d k) seat_count ≡ b → (sound_of d ≡ true) × NoneHas d k
      go false b e f = absurd (omega (arith, same_number not_sound no_ticket (rw e) h))
      go true false e f = (e, none_has d k (ltb-false _ _ f))
      go true true e f = absurd (given_no (rw (e, f)) h)

  close_back : HandsBack d (close_of k d)
  unfolding close_of
  close_back why h = go (sound_of d) (ltb (seat_of d k) seat_count) refl refl
    where
      go : (a b : Bool) → sound_of d ≡ a → ltb (seat_of d k) seat_count ≡ b → (close_of k d).desk ≡ d
      go false b e f = rw e
      go true false e f = rw (e, f)
      go true true e f = absurd (given_no (rw (e, f)) h)

  pub close_in_words : CloseInWords k d
  unfolding close_of
  close_in_words =
      record {
        unsound = record { only = close_unsound; always = λ e. rw e };
        nobody = record { only = close_nobody; always = λ w. rw (w.0, has_none d k w.1) };
        frees = λ i s w.
            let m = w.among in
            let e : seat_of d k ≡ i = ap (seat_of d) (sym w.has) ∙ own_seat d s i m w.held in
            rw (s, e, lt-ltb i seat_count m);
      }

-- ---- turn
module _ (f : Files) (d : Desk) where
  -- a seat that is served is not Idle: its answer names its ticket, and Idle names none
  served_not_idle : sound_of d ≡ true → first_from d true (d.last_served + 1) < d.last_served + 1 + seat_count
      → (turn_of f d).answer ≡ gives (serve_of f (seat_at d (first_from d true (d.last_served + 1) % seat_count))).answer
      → (turn_of f d).answer ≡ gives idle → ⊥
  served_not_idle s l e h =
      let j = first_from d true (d.last_served + 1) in
      let i = j % seat_count in
      let m : first_passing (held_is d true) (d.last_served + 1) seat_count < d.last_served + 1 + seat_count = l in
      let held = beq_true (seat_at d i).held (first_found (held_is d true) (d.last_served + 1) seat_count m) in
      let some = (servable _ _ _ (sound_seat d s i (omega arith) held)).numbered in
      let q : gives (serve_of f (seat_at d i)).answer ≡ gives idle = sym e ∙ h in
      let r : (serve_of f (seat_at d i)).answer ≡ idle = cc in
      let z : (seat_at d i).ticket ≡ 0 = sym (served_answer f (seat_at d i)) ∙ ap ticket_of r in
      omega arith

  turn_unsound : (turn_of f d).answer ≡ refuses not_sound → sound_of d ≡ false
  unfolding turn_of next_of
  turn_unsound h = go (sound_of d) (have_lengths f d) (ltb (first_from d true (d.last_served + 1)) (d.last_served + 1 + seat_count)) refl refl refl
    where
      go : (a b x : Bool) → sound_of d ≡ a → have_lengths f d ≡ b
          → ltb (first_from d true (d.last_served + 1)) (d.last_served + 1 + seat_count) ≡ x → sound_of d ≡ false
      go false b x e l g = e
      go true false x e l g = absurd (omega (arith, same_number wrong_timetable not_sound (rw (e, l)) h))
      go true true false e l g = absurd (given_no (rw (e, l, g)) h)
      go true true true e l g = absurd (given_no (rw (e, l, g)) h)

  turn_length : (turn_of f d).answer ≡ refuses wrong_timetable → (sound_of d ≡ true) × (OfItsLength f d → ⊥)
  unfolding turn_of next_of
  turn_length h = go (sound_of d) (have_lengths f d) (ltb (first_from d true (d.last_served + 1)) (d.last_served + 1 + seat_count)) refl refl refl
    where
      go : (a b x : Bool) → sound_of d ≡ a → have_lengths f d ≡ b
          → ltb (first_from d true (d.last_served + 1)) (d.last_served + 1 + seat_count) ≡ x → (sound_of d ≡ true) × (OfItsLength f d → ⊥)
      go false b x e l g = absurd (omega (arith, same_number not_sound wrong_timetable (rw e) h))
      go true false x e l g = (e, lengths_other f d l)
      go true true false e l g = absurd (given_no (rw (e, l, g)) h)
      go true true true e l g = absurd (given_no (rw (e, l, g)) h)

  turn_nobody : (turn_of f d).answer ≡ gives idle
      → (sound_of d ≡ true) × OfItsLength f d × NoneHeld d × ((turn_of f d).desk ≡ d)
  unfolding turn_of next_of
  turn_nobody h = go (sound_of d) (have_lengths f d) (ltb (first_from d true (d.last_served + 1)) (d.last_served + 1 + seat_count)) refl refl refl
    where
      go : (a b x : Bool) → sound_of d ≡ a → have_lengths f d ≡ b
          → ltb (first_from d true (d.last_served + 1)) (d.last_served + 1 + seat_count) ≡ x
          → (sound_of d ≡ true) × OfItsLength f d × NoneHeld d × ((turn_of f d).desk ≡ d)
      go false b x e l g = absurd (refused_no (rw e) h)
      go true false x e l g = absurd (refused_no (rw (e, l)) h)
      go true true false e l g = (e, lengths_same f d l, next_nobody d (sound_last d e) (ltb-false _ _ g), rw (e, l, g))
      go true true true e l g = absurd (served_not_idle e (ltb-true _ _ g) (rw (e, l, g)) h)

  turn_back : HandsBack d (turn_of f d)
  unfolding turn_of next_of
  turn_back why h = go (sound_of d) (have_lengths f d) (ltb (first_from d true (d.last_served + 1)) (d.last_served + 1 + seat_count)) refl refl refl
    where
      go : (a b x : Bool) → sound_of d ≡ a → have_lengths f d ≡ b
          → ltb (first_from d true (d.last_served + 1)) (d.last_served + 1 + seat_count) ≡ x → (turn_of f d).desk ≡ d
      go false b x e l g = rw e
      go true false x e l g = rw (e, l)
      go true true false e l g = rw (e, l, g)
      go true true true e l g = absurd (given_no (rw (e, l, g)) h)

  pub turn_in_words : TurnInWords f d
  unfolding turn_of next_of
  turn_in_words =
      record {
        unsound = record { only = turn_unsound; always = λ e. rw e };
        other_length = record { only = turn_length; always = λ w. rw (w.0, other_lengths f d w.1) };
        nobody = record {
          only = λ h. (let w = turn_nobody h in (w.0, w.1, w.2));
          always = λ w.
              let last = sound_last d w.0 in
              let l : d.last_served + 1 + seat_count ≤ first_from d true (d.last_served + 1) = omega (arith, nobody_next d last w.2) in
              rw (w.0, same_lengths f d w.1, le-ltb _ _ l);
        };
        stays = λ h. (turn_nobody h).3;
        serves = λ n s e w.
            let a = w.within in
            let q = next_is d (sound_last d s) n w in
            let l : d.last_served + n < d.last_served + 1 + seat_count = omega arith in
            rw (s, same_lengths f d e, q, lt-ltb _ _ l);
      }

-- ---- a refused call hands the desk back as it came
fresh_back : (long : ℕ) → HandsBack no_desk (fresh_of long)
unfolding fresh_of
fresh_back long why h = go (leb long max_timetable) refl
  where
    go : (b : Bool) → leb long max_timetable ≡ b → (fresh_of long).desk ≡ no_desk
    go false f = rw f
    go true f = absurd (given_no (rw f) h)

pub refused_alters_nothing : RefusedAltersNothing
refused_alters_nothing =
    record {
      by_open = λ r d. open_back r d (opens r d);
      by_close = close_back;
      by_turn = turn_back;
      by_fresh = fresh_back;
      unsound = no_desk_sound;
    }
