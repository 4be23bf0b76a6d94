-- The condition in a seat: its bytes stand at the start of as many zeros as the seat has room for, and zeros stand after it.
use mathlib.Core.Path.{◌≡◌, ap, ◌∙◌}
use mathlib.Core.List.{List, ◌++◌}
use Prim.Native.Nat.{ℕ, zero, suc, ◌-◌}
use native.Mathlib.Omega.{arith}
use lib.ListN.{length, drop, replicate}
use Rattle.desk_seat.specs.Bounds.{condition_room}

-- what is left of equal elements after some of them
drop_same : (n m x : ℕ) → drop n (replicate m x) ≡ replicate (m - n) x
drop_same zero m x = let e : m ≡ m - 0 = omega arith in ap (λ (k : ℕ). replicate k x) e
drop_same (suc n) zero x = let e : 0 ≡ 0 - suc n = omega arith in ap (λ (k : ℕ). replicate k x) e
drop_same (suc n) (suc m) x = let e : m - n ≡ suc m - suc n = omega arith in drop_same n m x ∙ ap (λ (k : ℕ). replicate k x) e

pub copied_in : (text : List ℕ) {w : List ℕ} → w ≡ text
    → w ++ drop (length text) (replicate condition_room 0) ≡ text ++ replicate (condition_room - length text) 0
copied_in text e = rw (e, drop_same (length text) condition_room 0)
