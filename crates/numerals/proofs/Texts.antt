-- Text that grows: after a byte more, zeros still stand behind it.
use mathlib.Core.Path.{◌≡◌, ◌∙◌, ap}
use mathlib.Core.List.{List}
use Prim.Native.Nat.{ℕ, ◌+◌, ◌-◌, ◌≤◌, ◌<◌}
use native.Mathlib.Omega.{arith}
use lib.ListN.{length, take, drop, set, replicate}
use lib.Seq.{drop-drop, length-take-le}
use Rattle.std.proofs.lemmas.List.{drop-set-lt, drop-replicate, length-set}

pub one_byte_more : {room len : ℕ} (bytes text : List ℕ) (b : ℕ) → take len bytes ≡ text → length text < room
    → (len ≤ room) × (drop len bytes ≡ replicate (room - len) 0) × (length bytes ≡ room)
    → (len + 1 ≤ room) × (drop (len + 1) (set bytes len b) ≡ replicate (room - (len + 1)) 0) × (length (set bytes len b) ≡ room)
one_byte_more {room} {len} bytes text b e h v =
    (omega (arith, ap length e, taken), rw (drop-set-lt (len + 1) bytes len b (omega (arith, v.2, ap length e, taken)), ← drop-drop 1 len bytes, v.1, drop-replicate {X = ℕ} 1 (room - len) 0, m), length-set bytes len b ∙ v.2)
  where
    taken : length (take len bytes) ≡ len
    taken = length-take-le len bytes (omega (arith, v.0, v.2))

    m : room - len - 1 ≡ room - (len + 1)
    m = omega arith
