-- Which answers hold only values within the bounds, and what an answer that gives a value says of the tests before it.
use mathlib.Core.Path.{◌≡◌, refl, ap, sym, ◌∙◌}
use mathlib.Core.Bool.{Bool, true, false}
use Prim.Native.Nat.{ℕ}
use Rattle.basis.specs.Choice.{pick}
use Rattle.basis.specs.Answer.{Answer, gives, refuses}
use Rattle.value.specs.Kinds.{ok_value}
use Rattle.value.specs.Carried.{valid}
use Rattle.value.specs.declared.Value.{Value}

pub valid_given : (r : Answer Value) (v : Value) → valid r ≡ true → r ≡ gives v → ok_value v ≡ true
valid_given r v h e = ap valid (sym e) ∙ h

pub valid_pick : (b : Bool) (x y : Answer Value) → (b ≡ true → valid x ≡ true) → valid y ≡ true → valid (pick b x y) ≡ true
valid_pick true x y f g = f refl
valid_pick false x y f g = g

pub valid_test : (b : Bool) (v : Value) (n : ℕ) → (b ≡ true → ok_value v ≡ true) → valid (pick b (gives v) (refuses n)) ≡ true
valid_test true v n f = f refl
valid_test false v n f = refl

-- a value after a test that refuses: the test held
pub given_test : {A : Type 0} (b : Bool) (x : Answer A) (n : ℕ) (v : A) → pick b x (refuses n) ≡ gives v → b ≡ true
given_test true x n v e = refl
given_test false x n v e = cc

pub given_rest : {A : Type 0} (b : Bool) (x : Answer A) (n : ℕ) (v : A) → pick b x (refuses n) ≡ gives v → x ≡ gives v
given_rest true x n v e = e
given_rest false x n v e = cc

pub gives_same : {A : Type 0} (v w : A) → gives v ≡ gives w → v ≡ w
gives_same v w e = cc
