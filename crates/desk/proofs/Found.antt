-- What the searches of the seats find: the place of the first seat that passes a test is the first number that passes it, and what a
-- search that found a number, or none, tells.
use mathlib.Core.Path.{◌≡◌, refl, sym, ◌∙◌}
use mathlib.Core.Bool.{Bool, true, false, cond}
use mathlib.Core.List.{[]}
use Prim.Native.Nat.{ℕ, ◌+◌, ◌%◌, ◌≤◌, ◌<◌}
use native.Mathlib.Nat.{zero-add}
use native.Mathlib.Omega.{arith}
use borrow.Author.Tests.{lt-ltb, le-ltb, ltb-true, ltb-false, ne_eqb}
use lib.Dec.{ltb, eqb}
use lib.ListN.{length, get_or}
use Rattle.std.specs.Prelude.{Option, Some, None}
use Rattle.std.specs.Bool.{MatchBool}
use Rattle.std.specs.Option.{MatchOption, option_eq, option_map}
use Rattle.std.specs.List.{position, position_or_len, range_with_len, AllWithin, HoldsAt}
use Rattle.std.proofs.lemmas.List.Sums.{position_or_len_is}
use Rattle.std.proofs.lemmas.List.FromFn.{length-range_with_len, get_or-range_with_len}
use Rattle.basis.specs.Choice.{pick}
use Rattle.basis.specs.Answer.{gives}
use Rattle.desk_seat.specs.Files.{Files}
use Rattle.desk_seat.specs.Answers.{idle}
use Rattle.desk_seat.specs.Serving.{serve_of}
use Rattle.desk_seat.specs.declared.Seat.{Seat}
use Rattle.desk.specs.Bounds.{seat_count}
use Rattle.desk.specs.Scan.{first_passing, all}
use Rattle.desk.specs.Seats.{seat_at, held_is, first_from}
use Rattle.desk.specs.Desk.{after_step, next_of}
use Rattle.desk.specs.Carried.{seat_numbered, held_found}
use Rattle.desk.specs.declared.Desk.{Desk}
use Rattle.desk.proofs.Scans.{first_within, first_found, first_before, first_is, first_none, all_make, all_fail, beq_true}

-- what stands past the last seat
abbrev no_seat : Seat
no_seat = record { held = false; ticket = 0; offset = 0; place = 0; hits = 0; unreadable = 0; condition_length = 0; condition = [] }

-- ---- a number, where it is below a bound
some_below : (b : Bool) (x i : ℕ) → pick b (Some x) None ≡ Some i → (b ≡ true) × (x ≡ i)
some_below true x i e = (refl, cc)
some_below false x i e = absurd (let z : ◌≡◌ {A = ℕ} 0 1 = cc in omega arith)

none_below : (b : Bool) (x : ℕ) → pick b (Some x) None ≡ None → b ≡ false
none_below true x e = cc
none_below false x e = refl

pub numbered_some : {n i : ℕ} → Some i ≡ seat_numbered n → (n ≡ i) × (i < seat_count)
numbered_some {n} {i} e =
    let w = some_below (ltb n seat_count) n i (sym e) in
    let l = ltb-true n seat_count w.0 in
    (w.1, omega (arith, w.1))

pub numbered_none : {n : ℕ} → None ≡ seat_numbered n → seat_count ≤ n
numbered_none {n} e = ltb-false n seat_count (none_below (ltb n seat_count) n (sym e))

-- whether the number found is a seat's
pub numbered_here : (n : ℕ) {i : ℕ} {o : Option ℕ} → i < seat_count → o ≡ seat_numbered n → option_eq eqb o (Some i) ≡ eqb n i
numbered_here n {i} {o} l e = rw e (go (ltb n seat_count) refl)
  where
    go : (b : Bool) → ltb n seat_count ≡ b → option_eq eqb (pick b (Some n) None) (Some i) ≡ eqb n i
    go true h = refl
    go false h =
        let m = ltb-false n seat_count h in
        let u : n ≡ i → ⊥ = λ q. omega (arith, q) in
        sym (ne_eqb n i u)

-- whether every number below one passes a test
pub all_said : (p : ℕ → Bool) (n : ℕ) (r : Bool)
    → MatchBool r (AllWithin (λ x. p x ≡ true) (range_with_len 0 n) 0 (length (range_with_len 0 n)))
    ((k : ℕ) × (k < length (range_with_len 0 n)) × HoldsAt (λ x. p x ≡ false) (range_with_len 0 n) k)
    → r ≡ all p n
all_said p n true w =
    sym (all_make p n (λ i l. let e : get_or (range_with_len 0 n) i 0 ≡ i = get_or-range_with_len 0 n i 0 l ∙ zero-add i in
    rw e at (w i 0 (omega arith) (omega (arith, length-range_with_len 0 n)))))
all_said p n false w =
    let k = w.0 in
    let l : k < n = omega (arith, w.1, length-range_with_len 0 n) in
    let e : get_or (range_with_len 0 n) k 0 ≡ k = get_or-range_with_len 0 n k 0 l ∙ zero-add k in
    sym (all_fail p n k l (rw e at (w.2 0)))

-- ---- the place of the first seat that passes a test
module _ (d : Desk) (long : length d.seats ≡ seat_count) (test : Seat → Bool) (p : ℕ → Bool) (same : (k : ℕ) → k < seat_count → test (seat_at d k) ≡ p k) where
  place : position_or_len test d.seats ≡ first_passing p 0 seat_count
  place =
      let n = first_passing p 0 seat_count in
      let w : n ≤ seat_count = omega (arith, first_within p 0 seat_count) in
      position_or_len_is test d.seats n no_seat (omega arith)
      (λ k l. same k (omega arith) ∙ first_before p 0 seat_count k (omega arith) l)
      (λ l. same n (omega arith) ∙ first_found p 0 seat_count (omega arith))

  pub place_found : position test d.seats ≡ seat_numbered (first_passing p 0 seat_count)
  place_found = rw (place, long) (go (ltb (first_passing p 0 seat_count) seat_count))
    where
      go : (b : Bool) → cond b (Some (first_passing p 0 seat_count)) None ≡ pick b (Some (first_passing p 0 seat_count)) None
      go true = refl
      go false = refl

-- ---- the first held seat after the last served
module _ (d : Desk) where
  abbrev start : ℕ
  start = d.last_served + 1

  abbrev first : ℕ
  first = first_from d true start

  abbrev held : ℕ → Type 0
  held j = (seat_at d (j % seat_count)).held ≡ true

  abbrev free : ℕ → Type 0
  free j = (seat_at d (j % seat_count)).held ≡ false

  -- the first of the sixteen numbers after the last served whose seat, going round, is held
  pub held_is_found : (o : Option ℕ)
      → MatchOption o ((k : ℕ) → start ≤ k → k < start + seat_count → free k)
      (λ j. (start ≤ j) × (j < start + seat_count) × held j × ((k : ℕ) → start ≤ k → k < j → free k))
      → option_map (λ (j : ℕ). j % seat_count) o ≡ held_found d
  held_is_found None w =
      let e : first ≡ start + seat_count = first_none (held_is d true) start seat_count (λ m a b. rw (w m a b) refl) in
      rw (e, le-ltb (start + seat_count) (start + seat_count) (omega arith)) refl
  held_is_found (Some j) w =
      let e : first ≡ j = first_is (held_is d true) start seat_count j w.0 w.1 (rw w.2 refl) (λ m a b. rw (w.3 m a b) refl) in
      rw (e, lt-ltb j (start + seat_count) w.1) refl

  -- what was found is the number of a held seat
  module _ (i : ℕ) (e : Some i ≡ held_found d) where
    below : first < start + seat_count
    below = ltb-true first (start + seat_count) (some_below (ltb first (start + seat_count)) (first % seat_count) i (sym e)).0

    is : first % seat_count ≡ i
    is = (some_below (ltb first (start + seat_count)) (first % seat_count) i (sym e)).1

    pub found_seat : i < seat_count
    found_seat = omega (arith, is)

    pub found_held : (seat_at d i).held ≡ true
    found_held = let h = first_found (held_is d true) start seat_count below in rw (← is) (beq_true _ h)

    -- and a turn serves it
    pub found_next : (f : Files) → next_of f d ≡ after_step d i (serve_of f (seat_at d i))
    unfolding next_of
    found_next f = rw (lt-ltb first (start + seat_count) below, is)

  -- where none is held, a turn is Idle
  pub none_next : None ≡ held_found d → (f : Files) → next_of f d ≡ record { desk = d; answer = gives idle }
  unfolding next_of
  none_next e f = let b = none_below (ltb first (start + seat_count)) (first % seat_count) (sym e) in rw b
