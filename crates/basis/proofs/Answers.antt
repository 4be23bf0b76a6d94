-- What an answer that follows another says of the first, and the other way round; which refusals are the same.
use mathlib.Core.Path.{◌≡◌, refl, ap}
use mathlib.Core.Logic.{◌⊎◌, inl, inr}
use Prim.Native.Nat.{ℕ}
use native.Mathlib.Omega.{arith}
use Rattle.basis.specs.Answer.{Reason, Answer, gives, refuses_for, refuses, and_then}

-- what a refusal says, and something else of a value
abbrev reason_in : {A : Type 0} → Reason → Answer A → Reason
reason_in r (gives x) = r
reason_in r (refuses_for s) = s

-- refusals that are the same say the same
pub refuses_same : {A : Type 0} (r s : Reason) → ◌≡◌ {A = Answer A} (refuses_for r) (refuses_for s) → r ≡ s
refuses_same r s e = ap (reason_in r) e

pub refuses_number : {A : Type 0} (m n : ℕ) → ◌≡◌ {A = Answer A} (refuses m) (refuses n) → m ≡ n
refuses_number m n e = ap (λ (r : Reason). r.number) (refuses_same _ _ e)

pub then_gives : {A B : Type 0} (x : Answer A) (f : A → Answer B) (y : B) → and_then x f ≡ gives y → (a : A) × (x ≡ gives a) × (f a ≡ gives y)
unfolding and_then
then_gives (gives a) f y e = (a, refl, e)
then_gives (refuses_for r) f y e = absurd (let z : ◌≡◌ {A = ℕ} 0 1 = cc in omega arith)

pub then_refuses : {A B : Type 0} (x : Answer A) (f : A → Answer B) (r : Reason) → and_then x f ≡ refuses_for r
    → (x ≡ refuses_for r) ⊎ ((a : A) × (x ≡ gives a) × (f a ≡ refuses_for r))
unfolding and_then
then_refuses (gives a) f r e = inr (a, refl, e)
then_refuses (refuses_for s) f r e = inl (ap refuses_for (refuses_same s r e))

pub then_refused : {A B : Type 0} (x : Answer A) (f : A → Answer B) (r : Reason) → refuses_for r ≡ x → refuses_for r ≡ and_then x f
unfolding and_then
then_refused x f r e = λ i. and_then (e i) f

pub then_given : {A B : Type 0} (x : Answer A) (f : A → Answer B) (a : A) → gives a ≡ x → f a ≡ and_then x f
unfolding and_then
then_given x f a e = λ i. and_then (e i) f
