-- Answers of equal meaning are equal, so that the contracts, which go through the meaning, determine the answer and the desk.
use Rattle.std.specs.Prelude.{Err, Ok, Result, ℕ}
use mathlib.Core.Path.{◌≡◌, refl, ap}
use Prim.Native.Nat.{ℕ}
use Rattle.basis.specs.Answer.{Answer, gives, refuses_for}
use Rattle.value.specs.Reasons.{refusal_of}
use Rattle.desk_seat.specs.Answers.{Turned, idle, hit_at, miss_at, unreadable_at, done_with, turn_meaning}
use Rattle.desk.specs.Answers.{After, fresh_meaning, open_meaning, close_meaning, after_fresh, after_open, after_close, after_turn}
use Rattle.desk_seat.specs.declared.TurnAnswer.{TurnAnswer}
use Rattle.desk_seat.specs.declared.TurnAnswer.TheVariants as TV
use Rattle.desk.specs.declared.AfterFresh.{AfterFresh}
use Rattle.desk.specs.declared.AfterOpen.{AfterOpen}
use Rattle.desk.specs.declared.AfterClose.{AfterClose}
use Rattle.desk.specs.declared.AfterTurn.{AfterTurn}
use Rattle.value.specs.declared.Refusal.{Refusal}

-- the answer with a meaning
abbrev fresh_from : Answer (Unit {0}) → Result Unit Refusal
fresh_from (gives u) = Ok tt
fresh_from (refuses_for r) = Err (refusal_of r)

fresh_back : (a : Result Unit Refusal) → fresh_from (fresh_meaning a) ≡ a
fresh_back (Ok tt) = refl
fresh_back (Err r) = refl

pub fresh_determined : (a b : Result Unit Refusal) → fresh_meaning a ≡ fresh_meaning b → a ≡ b
fresh_determined a b e = cc (ap fresh_from e, fresh_back a, fresh_back b)

abbrev open_from : Answer ℕ → Result ℕ Refusal
open_from (gives k) = Ok k
open_from (refuses_for r) = Err (refusal_of r)

open_back : (a : Result ℕ Refusal) → open_from (open_meaning a) ≡ a
open_back (Ok k) = refl
open_back (Err r) = refl

pub open_determined : (a b : Result ℕ Refusal) → open_meaning a ≡ open_meaning b → a ≡ b
open_determined a b e = cc (ap open_from e, open_back a, open_back b)

abbrev close_from : Answer (Unit {0}) → Result Unit Refusal
close_from (gives u) = Ok tt
close_from (refuses_for r) = Err (refusal_of r)

close_back : (a : Result Unit Refusal) → close_from (close_meaning a) ≡ a
close_back (Ok tt) = refl
close_back (Err r) = refl

pub close_determined : (a b : Result Unit Refusal) → close_meaning a ≡ close_meaning b → a ≡ b
close_determined a b e = cc (ap close_from e, close_back a, close_back b)

abbrev turn_from : Answer Turned → TurnAnswer
turn_from (gives idle) = TV.Idle
turn_from (gives (hit_at k o p)) = TV.Hit (record { ticket = k; offset = o; place = p })
turn_from (gives (miss_at k o p)) = TV.Miss (record { ticket = k; offset = o; place = p })
turn_from (gives (unreadable_at k o r)) = TV.Unreadable (record { ticket = k; offset = o }) (refusal_of r)
turn_from (gives (done_with k h u)) = TV.Done (record { ticket = k; hits = h; unreadable = u })
turn_from (refuses_for r) = TV.Refused (refusal_of r)

turn_back : (a : TurnAnswer) → turn_from (turn_meaning a) ≡ a
turn_back TV.Idle = refl
turn_back (TV.Hit a) = refl
turn_back (TV.Miss a) = refl
turn_back (TV.Unreadable a r) = refl
turn_back (TV.Done c) = refl
turn_back (TV.Refused r) = refl

pub turn_determined : (a b : TurnAnswer) → turn_meaning a ≡ turn_meaning b → a ≡ b
turn_determined a b e = cc (ap turn_from e, turn_back a, turn_back b)

-- ---- desk and answer
pub after_fresh_determined : (a b : AfterFresh) → after_fresh a ≡ after_fresh b → a ≡ b
after_fresh_determined a b e =
    let q = fresh_determined a.answer b.answer (ap (λ (x : After (Unit {0})). x.answer) e) in
    λ i. record { desk = (e i).desk; answer = q i }

pub after_open_determined : (a b : AfterOpen) → after_open a ≡ after_open b → a ≡ b
after_open_determined a b e =
    let q = open_determined a.answer b.answer (ap (λ (x : After ℕ). x.answer) e) in
    λ i. record { desk = (e i).desk; answer = q i }

pub after_close_determined : (a b : AfterClose) → after_close a ≡ after_close b → a ≡ b
after_close_determined a b e =
    let q = close_determined a.answer b.answer (ap (λ (x : After (Unit {0})). x.answer) e) in
    λ i. record { desk = (e i).desk; answer = q i }

pub after_turn_determined : (a b : AfterTurn) → after_turn a ≡ after_turn b → a ≡ b
after_turn_determined a b e =
    let q = turn_determined a.answer b.answer (ap (λ (x : After Turned). x.answer) e) in
    λ i. record { desk = (e i).desk; answer = q i }
