-- docs/LINES.md, "Hostile desks": "HEX the 240 bytes of the condition without the zeros at their end".
use Rattle.std.specs.Prelude.{◌≡◌, List, ℕ, ◌-◌, ◌≤◌, ◌<◌, length, get_or}

-- r is the number of bytes that are left without the zeros at the end: after them all are zero, and the last of them is not
pub record KeptBytes (s : List ℕ) (r : ℕ) : Type 0 where
  pub within : r ≤ length s
  pub zeros : (i : ℕ) → i < length s → r ≤ i → get_or s i 0 ≡ 0
  pub last : 0 < r → get_or s (r - 1) 0 ≡ 0 → ⊥
