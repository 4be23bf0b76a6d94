-- A choice by a test, tests taken together, a test of each of a list, and whether a number is one of a list.
use Rattle.std.specs.Prelude.{Bool, true, false, List, [], ◌∷◌, ℕ, eqb}

-- the first where the test holds, else the second
abbrev pub pick : {A : Type 0} → Bool → A → A → A
pick true a b = a
pick false a b = b

-- whether both tests hold; the second is asked only after a true first
unfoldable pub both : Bool → Bool → Bool
both true b = b
both false b = false

-- whether every test of a list holds
unfoldable pub every : List Bool → Bool
every [] = true
every (b ∷ bs) = both b (every bs)

-- whether each of a list passes a test
abbrev pub all_pass : {A : Type 0} → (A → Bool) → List A → Bool
all_pass test [] = true
all_pass test (x ∷ xs) = both (test x) (all_pass test xs)

-- whether a number is one of a list
abbrev pub among : List ℕ → ℕ → Bool
among [] n = false
among (m ∷ ms) n = pick (eqb n m) true (among ms n)
