-- Many turns are that many single turns and the lines of their answers, and a refusal of them alters neither desk nor room.
use mathlib.Core.Path.{◌≡◌, refl, sym, ap, ◌∙◌}
use mathlib.Core.Bool.{Bool, true, false, true≢false}
use mathlib.Core.List.{List, [], ◌++◌, append-nil}
use Prim.Native.Nat.{ℕ, zero, suc, ◌+◌, ◌-◌, ◌≤◌, ◌<◌}
use native.Mathlib.Omega.{arith}
use borrow.Author.Tests.{leb-true, leb-false}
use lib.Dec.{leb}
use lib.ListN.{length, drop, length-append}
use Rattle.basis.specs.Answer.{Reason, Answer, gives, refuses_for, only_number}
use Rattle.desk_seat.specs.Files.{Files}
use Rattle.desk.specs.Answers.{After}
use Rattle.desk.specs.Soundness.{sound_of}
use Rattle.value.specs.Refusals.{wrong_timetable, not_sound, no_room}
use Rattle.desk.specs.Desk.{refused, no_desk, have_lengths, turn_of}
use Rattle.desk.specs.declared.Desk.{Desk}
use Rattle.desk_laws.proofs.NewDesk.{no_desk_sound}
use Rattle.output_lines.specs.Text.{turn_line}
use Rattle.output_turns.specs.Turns.{is_idle, Taken, none, onto_taken, taken, wrote, turns_of, room_after, desk_after, lines_of_turns, answer_after, SingleTurns, TurnsAreSingle, RefusedTurnsAlterNothing}
use Rattle.output_turns.specs.declared.WrittenTurns.{WrittenTurns}
use Rattle.output_turns.proofs.Counting.{line_some, taken_next}
use Rattle.output_turns.proofs.Calls.{some_written, turns_some, room_after_lem}

given_not_refused : {A : Type 0} (a : A) (r : Reason) → gives a ≡ refuses_for r → ⊥
given_not_refused a r e =
    let z : ◌≡◌ {A = ℕ} 0 1 = cc in
    omega arith

-- k is n single turns: their lines fit, none but the last was Idle, and where the last was not, the next line would not fit
pub record Singles (k : Taken) (f : Files) (d : Desk) (size n : ℕ) : Type 0 where
  pub desk : k.desk ≡ desk_after n f d
  pub text : k.text ≡ lines_of_turns n f d
  pub fits : length (lines_of_turns n f d) ≤ size
  pub never : n ≡ 0 → k.idle ≡ false
  pub earlier : (j : ℕ) → suc j < n → is_idle (answer_after j f d) ≡ false
  pub last : (m : ℕ) → n ≡ suc m → k.idle ≡ is_idle (answer_after m f d)
  pub stops : k.idle ≡ false → size < length (lines_of_turns n f d) + length (turn_line (answer_after n f d))

module _ (f : Files) where
  -- no turn: the next line does not fit
  no_turn : (d : Desk) (size : ℕ) → size < length (turn_line (turn_of f d).answer) → Singles (none d) f d size 0
  unfolding desk_after lines_of_turns
  no_turn d size l =
      record {
        desk = refl;
        text = refl;
        fits = omega arith;
        never = λ e. refl;
        earlier = λ j m. absurd (omega arith);
        last = λ m e. absurd (omega (arith, e));
        stops = λ e. omega arith;
      }

  -- the one turn that was Idle
  module _ (d : Desk) (yes : is_idle (turn_of f d).answer ≡ true) where
    idle_last : (m : ℕ) → 1 ≡ suc m → true ≡ is_idle (answer_after m f d)
    unfolding desk_after
    idle_last zero e = sym yes
    idle_last (suc m) e = absurd (omega (arith, e))

    idle_turn : (size : ℕ) → length (turn_line (turn_of f d).answer) ≤ size
        → Singles (onto_taken (turn_line (turn_of f d).answer) (record { desk = (turn_of f d).desk; text = []; idle = true })) f d size 1
    unfolding desk_after lines_of_turns
    idle_turn size l =
        record {
          desk = refl;
          text = refl;
          fits = omega (arith, ap length (append-nil (turn_line (turn_of f d).answer)));
          never = λ e. absurd (omega (arith, e));
          earlier = λ j m. absurd (omega arith);
          last = idle_last;
          stops = λ e. absurd (true≢false e);
        }

  -- a turn before others, which was not Idle
  module _
      (d : Desk)
      (size n : ℕ)
      (k : Taken)
      (no : is_idle (turn_of f d).answer ≡ false)
      (x : Singles k f (turn_of f d).desk (size - length (turn_line (turn_of f d).answer)) n)
    where
      more_earlier : (j : ℕ) → suc j < suc n → is_idle (answer_after j f d) ≡ false
      unfolding desk_after
      more_earlier zero l = no
      more_earlier (suc j) l = x.earlier j (omega arith)

      more_last : (m : ℕ) → suc n ≡ suc m → k.idle ≡ is_idle (answer_after m f d)
      unfolding desk_after
      more_last zero e = x.never (omega (arith, e)) ∙ sym no
      more_last (suc m) e = x.last m (omega (arith, e))

      one_more : length (turn_line (turn_of f d).answer) ≤ size → Singles (onto_taken (turn_line (turn_of f d).answer) k) f d size (suc n)
      unfolding desk_after lines_of_turns
      one_more l =
          let z = length-append (turn_line (turn_of f d).answer) (lines_of_turns n f (turn_of f d).desk) in
          record {
            desk = x.desk;
            text = ap (λ (w : List ℕ). turn_line (turn_of f d).answer ++ w) x.text;
            fits = omega (arith, x.fits);
            never = λ e. absurd (omega (arith, e));
            earlier = more_earlier;
            last = more_last;
            stops = λ e. (let over = x.stops e in omega arith);
          }

  singles : (m : ℕ) (d : Desk) (size : ℕ) → size ≤ m → (n : ℕ) × Singles (taken f d size) f d size n
  singles zero d size l =
      let s = line_some (turn_of f d).answer in
      go (leb (length (turn_line (turn_of f d).answer)) size) refl
    where
      go : (b : Bool) → leb (length (turn_line (turn_of f d).answer)) size ≡ b → (n : ℕ) × Singles (taken f d size) f d size n
      go false e = (0, rw (taken_next f d size, e) (no_turn d size (leb-false _ _ e)))
      go true e = absurd (omega (arith, leb-true (length (turn_line (turn_of f d).answer)) size e, line_some (turn_of f d).answer))
  singles (suc m) d size l =
      let s = line_some (turn_of f d).answer in
      go (leb (length (turn_line (turn_of f d).answer)) size) (is_idle (turn_of f d).answer) refl refl
      (λ fits. singles m (turn_of f d).desk (size - length (turn_line (turn_of f d).answer)) (omega arith))
    where
      go : (b i : Bool) → leb (length (turn_line (turn_of f d).answer)) size ≡ b → is_idle (turn_of f d).answer ≡ i
          → (length (turn_line (turn_of f d).answer) ≤ size
          → (n : ℕ) × Singles (taken f (turn_of f d).desk (size - length (turn_line (turn_of f d).answer))) f (turn_of f d).desk (size - length (turn_line (turn_of f d).answer)) n)
          → (n : ℕ) × Singles (taken f d size) f d size n
      go false i e y ih = (0, rw (taken_next f d size, e) (no_turn d size (leb-false _ _ e)))
      go true true e y ih = (1, rw (taken_next f d size, e, y) (idle_turn d y size (leb-true _ _ e)))
      go true false e y ih =
          let x = ih (leb-true _ _ e) in
          (suc x.0, rw (taken_next f d size, e, y) (one_more d size x.0 _ y x.1 (leb-true _ _ e)))

pub many_are_single : (f : Files) (d : Desk) (size : ℕ) → (n : ℕ) × Singles (taken f d size) f d size n
many_are_single f d size = singles f size d size (omega arith)

-- ---- as a caller sees it
module _ (f : Files) (d : Desk) (before : List ℕ) (w : WrittenTurns) where
  seen : (n : ℕ) → Singles (taken f d (length before)) f d (length before) n → 1 ≤ length (taken f d (length before)).text
      → turns_of f d (length before) ≡ wrote (taken f d (length before))
      → room_after f d before ≡ (taken f d (length before)).text ++ drop (length (taken f d (length before)).text) before
      → (turns_of f d (length before)).answer ≡ gives w
      → (m : ℕ) × SingleTurns f d before w m
  unfolding lines_of_turns
  seen zero x some is room a = absurd (omega (arith, ap length x.text))
  seen (suc m) x some is room a =
      let e : ◌≡◌ {A = Answer WrittenTurns} (gives (record { count = length (taken f d (length before)).text; idle = (taken f d (length before)).idle })) (gives w) =
      sym (ap (λ (r : After WrittenTurns). r.answer) is) ∙ a in
      let q : ◌≡◌ {A = WrittenTurns} (record { count = length (taken f d (length before)).text; idle = (taken f d (length before)).idle }) w = cc in
      let c : w.count ≡ length (taken f d (length before)).text = sym (ap (λ (v : WrittenTurns). v.count) q) in
      let i : w.idle ≡ (taken f d (length before)).idle = sym (ap (λ (v : WrittenTurns). v.idle) q) in
      let long = ap length x.text in
      let enough = x.fits in (
        m,
        record {
          desk = ap (λ (r : After WrittenTurns). r.desk) is ∙ x.desk;
          count = c ∙ long;
          fits = omega (arith, c, long);
          room = room ∙ rw (c, x.text);
          earlier = λ j l. x.earlier j (omega arith);
          last = i ∙ x.last m refl;
          stops = λ no. (let over = x.stops (sym i ∙ no) in omega (arith, c, long));
        },
      )

pub turns_are_single : TurnsAreSingle
unfolding turns_of
turns_are_single f d before w a =
    go (sound_of d) (have_lengths f d) (leb (length (turn_line (turn_of f d).answer)) (length before)) refl refl refl
  where
    go : (h b x : Bool) → sound_of d ≡ h → have_lengths f d ≡ b → leb (length (turn_line (turn_of f d).answer)) (length before) ≡ x
        → (m : ℕ) × SingleTurns f d before w m
    go false b x e l g = absurd (given_not_refused w (only_number not_sound) (sym a ∙ rw e))
    go true false x e l g = absurd (given_not_refused w (only_number wrong_timetable) (sym a ∙ rw (e, l)))
    go true true false e l g = absurd (given_not_refused w (only_number no_room) (sym a ∙ rw (e, l, g)))
    go true true true e l g =
        let s = many_are_single f d (length before) in
        let some = some_written f d (length before) g in
        seen f d before w s.0 s.1 some (turns_some f d (length before) e l some) (room_after_lem f d before e l) a

-- ---- refused
pub refused_turns_alter_nothing : RefusedTurnsAlterNothing
unfolding turns_of room_after
refused_turns_alter_nothing f d room why r =
    go (sound_of d) (have_lengths f d) (leb (length (turn_line (turn_of f d).answer)) (length room)) refl refl refl
  where
    go : (a b x : Bool) → sound_of d ≡ a → have_lengths f d ≡ b → leb (length (turn_line (turn_of f d).answer)) (length room) ≡ x
        → ((turns_of f d (length room)).desk ≡ d) × (room_after f d room ≡ room)
    go false b x e l g = (rw e, rw e)
    go true false x e l g = (rw (e, l), rw (e, l))
    go true true false e l g = (rw (e, l, g), rw (e, l, taken_next f d (length room), g))
    go true true true e l g =
        let q = rw (e, l, g) at r in
        absurd (given_not_refused _ _ q)

-- a refused fresh desk is no desk, here too
pub no_desk_turns : (f : Files) (size : ℕ) → turns_of f no_desk size ≡ refused no_desk not_sound
unfolding turns_of
no_desk_turns f size = rw no_desk_sound
