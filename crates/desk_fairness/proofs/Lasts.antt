-- Over any course of events a sound desk stays sound and tickets only rise; another query's calls alter no seat of this one.
use mathlib.Core.Path.{◌≡◌, sym, ap, ◌∙◌}
use mathlib.Core.List.{List, [], ◌∷◌}
use mathlib.Core.Logic.{⊎_elim}
use Prim.Native.Nat.{ℕ, ◌+◌, ◌≤◌}
use native.Mathlib.Omega.{arith}
use Rattle.basis.specs.Answer.{gives, refuses_for}
use Rattle.desk_seat.specs.Files.{Files}
use Rattle.desk_seat.specs.Request.{Request}
use Rattle.desk.specs.Answers.{After}
use Rattle.desk.specs.Desk.{open_of, close_of}
use Rattle.desk.specs.declared.Desk.{Desk}
use Rattle.desk_laws.proofs.Sound.{Sound, sound_in, sound_out}
use Rattle.desk_laws.proofs.Steps.{open_cases, close_cases, turn_issued}
use Rattle.desk_laws.proofs.Lasting.{open_lasts, close_lasts, turn_lasts, open_alters_no_held, close_alters_no_other, turn_alters_no_other}
use Rattle.desk_fairness.specs.Events.{Event, opens, closes, turns, after, after_all}
use Rattle.desk_fairness.specs.Lasting.{SoundLasts, TicketsOnce, OthersUntouched}

-- ---- soundness
sound_after : (f : Files) (d : Desk) (e : Event) → Sound d → Sound (after f d e)
sound_after f d (opens c) o = open_lasts d o c
sound_after f d (closes k) o = close_lasts d o k
sound_after f d turns o = turn_lasts d o f

sound_all : (f : Files) (d : Desk) (es : List Event) → Sound d → Sound (after_all f d es)
unfolding after_all
sound_all f d [] o = o
sound_all f d (e ∷ es) o = sound_all f (after f d e) es (sound_after f d e o)

pub sound_lasts : SoundLasts
sound_lasts f d es z h = sound_out (after_all f d es) (sound_all f d es (sound_in d z h))

-- ---- tickets
open_issued : (c : Request) (d : Desk) → d.issued ≤ (open_of c d).desk.issued
open_issued c d = ⊎_elim (λ n. rw n.1 (omega arith)) (λ w. rw w.is (omega arith)) (open_cases c d)

close_issued : (k : ℕ) (d : Desk) → d.issued ≤ (close_of k d).desk.issued
close_issued k d = ⊎_elim (λ n. rw n (omega arith)) (λ w. rw w.1 (omega arith)) (close_cases k d)

issued_after : (f : Files) (d : Desk) (e : Event) → d.issued ≤ (after f d e).issued
issued_after f d (opens c) = open_issued c d
issued_after f d (closes k) = close_issued k d
issued_after f d turns = omega (arith, turn_issued f d)

issued_all : (f : Files) (d : Desk) (es : List Event) → d.issued ≤ (after_all f d es).issued
unfolding after_all
issued_all f d [] = omega arith
issued_all f d (e ∷ es) = omega (arith, issued_after f d e, issued_all f (after f d e) es)

-- a ticket given is the next one, and is then the last issued
given_next : (c : Request) (d : Desk) (k : ℕ) → (open_of c d).answer ≡ gives k → (k ≡ d.issued + 1) × ((open_of c d).desk.issued ≡ k)
given_next c d k a =
    ⊎_elim
    (λ n.
    let e : refuses_for n.0 ≡ gives k = sym (ap (λ (x : After ℕ). x.answer) n.1) ∙ a in
    let f : ◌≡◌ {A = ℕ} 0 1 = cc in
    absurd (omega arith))
    (λ w.
    let e : gives (d.issued + 1) ≡ gives k = sym (ap (λ (x : After ℕ). x.answer) w.is) ∙ a in
    let q : d.issued + 1 ≡ k = cc in
    (sym q, rw w.is q))
    (open_cases c d)

pub tickets_once : TicketsOnce
tickets_once f c later d es k j first second =
    let a = given_next c d k first in
    let b = given_next later (after_all f (open_of c d).desk es) j second in
    let m = issued_all f (open_of c d).desk es in
    omega arith

-- ---- another query's seat
pub others_untouched : OthersUntouched
others_untouched d i s =
    let o = sound_in d s.desk s.sound in
    record {
      by_opening = open_alters_no_held d o i s.among s.held;
      by_closing = close_alters_no_other d o i s.among s.held;
      by_answers = turn_alters_no_other d o i s.among s.held;
    }
