-- Bytes of a known number, with nothing but zeros behind the first of them, are known by these: the fields that a text gives back.
use mathlib.Core.Path.{◌≡◌}
use mathlib.Core.List.{List, ◌++◌}
use Prim.Native.Nat.{ℕ, ◌-◌, ◌≤◌}
use native.Mathlib.Omega.{arith}
use lib.ListN.{length, take, drop, replicate}
use Rattle.std.proofs.lemmas.List.{length-take-le, take-append-drop}

pub filled_length : (bytes : List ℕ) (len room : ℕ) → (len ≤ room) × (drop len bytes ≡ replicate (room - len) 0) × (length bytes ≡ room)
    → length (take len bytes) ≡ len
filled_length bytes len room h = length-take-le len bytes (omega (arith, h.0, h.2))

pub filled_again : (bytes : List ℕ) (len room : ℕ) → (len ≤ room) × (drop len bytes ≡ replicate (room - len) 0) × (length bytes ≡ room)
    → take len bytes ++ replicate (room - length (take len bytes)) 0 ≡ bytes
filled_again bytes len room h = rw (filled_length bytes len room h, ← h.1, take-append-drop len bytes)
