-- What a test that holds says of its parts, and a call's answer taken for the test that it computes.
use mathlib.Core.Path.{◌≡◌, refl, ap, sym, ◌∙◌}
use mathlib.Core.Bool.{Bool, true, false}
use mathlib.Core.List.{List, [], ◌∷◌}
use lib.Dec.{eqb}
use borrow.Author.Tests.{eqb-true}
use Prim.Native.Nat.{ℕ}
use native.Mathlib.Omega.{arith}
use Rattle.basis.specs.Choice.{pick, both, every, all_pass, among}

-- a test does not fail and hold
pub never : false ≡ true → ⊥
never e = let z : ◌≡◌ {A = ℕ} 0 1 = cc in omega arith

pub both_left : (a b : Bool) → both a b ≡ true → a ≡ true
unfolding both
both_left true b e = refl
both_left false b e = e

pub both_right : (a b : Bool) → both a b ≡ true → b ≡ true
unfolding both
both_right true b e = e
both_right false b e = cc

pub both_true : (a b : Bool) → a ≡ true → b ≡ true → both a b ≡ true
unfolding both
both_true true b e f = f
both_true false b e f = e

-- a call whose answer is a test, taken by `if !f(x) { return .. }`
pub no : {t b : Bool} → t ≡ b → t ≡ false → b ≡ false
no e h = sym e ∙ h

pub yes : {t b : Bool} → t ≡ b → t ≡ true → b ≡ true
yes e h = sym e ∙ h

-- the last test of a list stands for itself
pub both_end : (b : Bool) → both b true ≡ b
unfolding both
both_end true = refl
both_end false = refl

-- a list of tests, test by test
pub every_goes : (b : Bool) (bs : List Bool) → b ≡ true → every (b ∷ bs) ≡ every bs
unfolding every both
every_goes b bs e = λ i. both (e i) (every bs)

pub every_fails : (b : Bool) (bs : List Bool) → b ≡ false → every (b ∷ bs) ≡ false
unfolding every both
every_fails b bs e = λ i. both (e i) (every bs)

pub every_ends : (b : Bool) → every (b ∷ []) ≡ b
unfolding every
every_ends b = both_end b

-- what holds of each of a list holds of a number that is one of them
pub among_all : (test : ℕ → Bool) (ms : List ℕ) (n : ℕ) → all_pass test ms ≡ true → among ms n ≡ true → test n ≡ true
among_all test [] n e h = absurd (never h)
among_all test (m ∷ ms) n e h = by (eqb n m) refl h (λ k. among_all test ms n (both_right (test m) (all_pass test ms) e) k)
  where
    by : (b : Bool) → eqb n m ≡ b → pick b true (among ms n) ≡ true → (among ms n ≡ true → test n ≡ true) → test n ≡ true
    by true q k r = ap test (eqb-true n m q) ∙ both_left (test m) (all_pass test ms) e
    by false q k r = r k
