-- While a ticket is held, every 16 turns serve its seat: after as many turns of its own as it has left and one more, 16 times
-- as many of all, it has had the answers of its seat by itself, and no more come.
use mathlib.Core.Path.{◌≡◌, refl, sym, ap, ◌∙◌}
use mathlib.Core.Bool.{true, false}
use mathlib.Core.List.{List, [], ◌∷◌}
use mathlib.Core.Logic.{⊎_elim}
use Prim.Native.Nat.{ℕ, zero, suc, ◌+◌, ◌*◌, ◌%◌, ◌≤◌}
use native.Mathlib.Nat.{eq-or-lt_of_le}
use native.Mathlib.Omega.{arith}
use lib.ListN.{length}
use Rattle.basis.specs.Answer.{gives, refuses_for}
use Rattle.desk_seat.specs.Files.{Files}
use Rattle.desk_seat.specs.Request.{Request}
use Rattle.desk_seat.specs.Answers.{Turned}
use Rattle.desk_seat.specs.Seat.{seat_for}
use Rattle.desk_seat.specs.Serving.{serve_of}
use Rattle.desk_seat.specs.TurnsLeft.{turns_asked, turns_left}
use Rattle.desk_seat.specs.declared.Seat.{Seat}
use Rattle.desk_seat.proofs.Serving.{line_or_done, served_answer}
use Rattle.desk_seat.proofs.TurnsLeft.{left_start, left_on, left_off}
use Rattle.desk.specs.Bounds.{seat_count}
use Rattle.desk.specs.Answers.{After}
use Rattle.desk.specs.Seats.{first_from}
use Rattle.desk.specs.Desk.{open_of, close_of, have_lengths, turn_of}
use Rattle.desk.specs.declared.Desk.{Desk}
use Rattle.desk_laws.proofs.Sound.{Sound, sound_in, at_same}
use Rattle.desk_laws.proofs.Steps.{Seated, open_cases, opened_sound}
use Rattle.desk_fairness.specs.Events.{Event, opens, closes, turns, mine, answers_of, turn_count, Unclosed}
use Rattle.desk_fairness.specs.Demand3.{Query, Course, gets, turns_for}
use Rattle.desk_fairness.proofs.Round.{dist, there}
use Rattle.desk_fairness.proofs.Tracks.{Track, Gone, not_mine, is_mine, gone_open, gone_close, gone_turn, track_open, track_close, reach, other_track, other_near, other_answer, it_track, it_gone, it_answer, it_last}

-- answers of a seat by itself, n of them
unfoldable pub serves : ℕ → Files → Seat → List Turned
serves zero f s = []
serves (suc n) f s = (serve_of f s).answer ∷ serves n f (serve_of f s).seat

module _ (f : Files) (k : ℕ) (pos : 1 ≤ k) where
  pub gone : (es : List Event) (d : Desk) → Gone f k pos d → answers_of k f d es ≡ []
  unfolding answers_of
  gone [] d g = refl
  gone (opens c ∷ es) d g = gone es (open_of c d).desk (gone_open f k pos c d g)
  gone (closes j ∷ es) d g = gone es (close_of j d).desk (gone_close f k pos j d g)
  gone (turns ∷ es) d g =
      let x = gone_turn f k pos d g in
      not_mine k (turn_of f d).answer (answers_of k f (turn_of f d).desk es) x.1 ∙ gone es (turn_of f d).desk x.0

  fair_turn : (es : List Event) (d : Desk) (i : ℕ) (s : Seat) → Track f k pos d i s
      → ((d' : Desk) (s' : Seat) → Track f k pos d' i s' → dist d'.last_served i + seat_count * turns_left f s' ≤ turn_count es → answers_of k f d' es ≡ serves (suc (turns_left f s')) f s')
      → dist d.last_served i + seat_count * turns_left f s ≤ suc (turn_count es)
      → mine k (turn_of f d).answer (answers_of k f (turn_of f d).desk es) ≡ serves (suc (turns_left f s)) f s
  unfolding serves
  fair_turn es d i s r ih b =
      ⊎_elim
      (λ e0.
      let e : first_from d true (d.last_served + 1) % seat_count ≡ i = rw e0 (there d.last_served i r.sound.last_in r.li) in
      let mine_eq : mine k (turn_of f d).answer (answers_of k f (turn_of f d).desk es) ≡ (serve_of f s).answer ∷ answers_of k f (turn_of f d).desk es =
      rw (it_answer f k pos d i s r e) (is_mine k (serve_of f s).answer _ (served_answer f s ∙ r.tick))
      in
      mine_eq
      ∙ ap (λ (x : List Turned). (serve_of f s).answer ∷ x)
      (⊎_elim
      (λ l.
      let tr = it_track f k pos d i s r e l in
      let le = it_last f k pos d i s r e in
      let lf = left_on f s l in
      let li = r.li in
      ih (turn_of f d).desk (serve_of f s).seat tr (rw le (omega arith)) ∙ rw lf)
      (λ z. gone es (turn_of f d).desk (it_gone f k pos d i s r e z) ∙ rw (left_off f s z))
      (line_or_done f s)))
      (λ l.
      let n = other_near f k pos d i s r l in
      not_mine k (turn_of f d).answer _ (other_answer f k pos d i s r l) ∙ ih (turn_of f d).desk s (other_track f k pos d i s r l) (omega arith))
      (eq-or-lt_of_le (reach f k pos d i s r))

  pub fair : (es : List Event) (d : Desk) (i : ℕ) (s : Seat) → Track f k pos d i s → Unclosed k es → dist d.last_served i + seat_count * turns_left f s ≤ turn_count es
      → answers_of k f d es ≡ serves (suc (turns_left f s)) f s
  unfolding answers_of turn_count Unclosed
  fair [] d i s r u b = absurd (omega arith)
  fair (opens c ∷ es) d i s r u b =
      let x = track_open f k pos c d i s r in
      fair es (open_of c d).desk i s x.0 u (rw x.1 b)
  fair (closes j ∷ es) d i s r u b =
      let x = track_close f k pos j d i s u.0 r in
      fair es (close_of j d).desk i s x.0 u.1 (rw x.1 b)
  fair (turns ∷ es) d i s r u b = fair_turn es d i s r (λ d' s' r' b'. fair es d' i s' r' u b') b

-- ---- an accepted query
-- the next ticket is not 0
pub some_ticket : (n : ℕ) → 1 ≤ n + 1
some_ticket n = omega arith

-- the open that accepted it seated it, with the next ticket
pub seated_by : (f : Files) (c : Request) (d : Desk) (k : ℕ) → Query f c d k → Seated c d × (d.issued + 1 ≡ k)
seated_by f c d k q =
    ⊎_elim
    (λ n.
    let e : refuses_for n.0 ≡ gives k = sym (ap (λ (x : After ℕ). x.answer) n.1) ∙ q.accepted in
    let z : ◌≡◌ {A = ℕ} 0 1 = cc in
    absurd (omega arith))
    (λ w.
    let e : gives (d.issued + 1) ≡ gives k = sym (ap (λ (x : After ℕ). x.answer) w.is) ∙ q.accepted in
    let kq : d.issued + 1 ≡ k = cc in
    (w, kq))
    (open_cases c d)

module _ (f : Files) (c : Request) (d : Desk) (z : length d.seats ≡ seat_count) (e : have_lengths f d ≡ true) (w : Seated c d) where
  pub before_sound : Sound d
  before_sound = sound_in d z w.sound

  pub taken : Track f (d.issued + 1) (some_ticket d.issued) (open_of c d).desk (first_from d false 0) (seat_for (d.issued + 1) c)
  taken =
      rw w.is
      (record {
        sound = opened_sound c d before_sound w;
        lengths = e;
        li = w.free;
        here = at_same d before_sound (first_from d false 0) w.free (seat_for (d.issued + 1) c) d.last_served (d.issued + 1);
        held = refl;
        tick = refl;
      })

  accepted_gets : (es : List Event) → Unclosed (d.issued + 1) es → turns_for f ≤ turn_count es
      → answers_of (d.issued + 1) f (open_of c d).desk es ≡ serves (suc (turns_asked f)) f (seat_for (d.issued + 1) c)
  accepted_gets es u b =
      let all = left_start f (d.issued + 1) c in
      rw (← all)
      (fair f (d.issued + 1) (some_ticket d.issued) es (open_of c d).desk (first_from d false 0) (seat_for (d.issued + 1) c) taken u (omega arith))

pub query_gets : (f : Files) (c : Request) (d : Desk) (k : ℕ) (es : List Event) → Query f c d k → Course f k es
    → gets f c d k es ≡ serves (suc (turns_asked f)) f (seat_for k c)
query_gets f c d k es q run =
    let sb = seated_by f c d k q in
    let kq = sb.1 in
    rw (← kq) (accepted_gets f c d q.desk q.lengths sb.0 es (rw kq run.unclosed) run.taken)
