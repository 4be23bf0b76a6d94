-- What the crate of conditions proves of accepted conditions, as a seat and the desk use it: such a text passes Open's
-- checks, and it fits a seat. That a judgement of it is never refused is the type of judgements.
use Rattle.std.specs.Prelude.{Err, Ok, Result}
use mathlib.Core.Path.{◌≡◌, refl, sym, ◌∙◌}
use mathlib.Core.Bool.{Bool, true, false}
use mathlib.Core.List.{List}
use Prim.Native.Nat.{ℕ, ◌≤◌}
use native.Mathlib.Omega.{arith}
use lib.ListN.{length}
use Rattle.basis.specs.Answer.{Reason, gives, refuses_for}
use Rattle.value.specs.Reasons.{reason_of}
use Rattle.value.specs.declared.Refusal.{Refusal}
use Rattle.condition.specs.Condition.{checked}
use Rattle.condition.proofs.Accepted.{accepted_gives, not_accepted_refuses, accepted_length}
use Rattle.desk_seat.specs.Bounds.{condition_room}
use Rattle.desk_seat.specs.Conditions.{accepted, check_of}

pub accepted_checked : (c : List ℕ) → accepted c ≡ true → check_of c ≡ gives tt
accepted_checked = accepted_gives

pub accepted_fits : (c : List ℕ) → accepted c ≡ true → length c ≤ condition_room
accepted_fits c h = (accepted_length c h).1

-- a text that passes the checks is accepted, and one that does not is not
pub checked_accepted : (c : List ℕ) (u : Unit {0}) → check_of c ≡ gives u → accepted c ≡ true
checked_accepted c u e = go (accepted c) refl
  where
    go : (b : Bool) → accepted c ≡ b → accepted c ≡ true
    go true h = h
    go false h =
        let r = not_accepted_refuses c h in
        let q : refuses_for r.0 ≡ gives u = sym r.1 ∙ e in
        let z : ◌≡◌ {A = ℕ} 0 1 = cc in
        absurd (omega arith)

pub refused_not_accepted : (c : List ℕ) (r : Reason) → check_of c ≡ refuses_for r → accepted c ≡ false
refused_not_accepted c r e = go (accepted c) refl
  where
    go : (b : Bool) → accepted c ≡ b → accepted c ≡ false
    go false h = h
    go true h =
        let q : gives tt ≡ refuses_for r = sym (accepted_gives c h) ∙ e in
        let z : ◌≡◌ {A = ℕ} 0 1 = cc in
        absurd (omega arith)

-- what a call of the checks answered
pub said_accepted : {r : (Result Unit Refusal)} (c : List ℕ) → checked r ≡ check_of c → r ≡ (Ok tt) → accepted c ≡ true
said_accepted c e h = checked_accepted c tt (sym e ∙ rw h)

pub said_refused : {r : (Result Unit Refusal)} {x : Refusal} (c : List ℕ) → checked r ≡ check_of c → r ≡ Err x → accepted c ≡ false
said_refused {r} {x} c e h = refused_not_accepted c (reason_of x) (sym e ∙ rw h)
