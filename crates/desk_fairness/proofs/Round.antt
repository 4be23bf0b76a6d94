-- How far round the desk a seat is from the last served: 1 to 16. A turn that serves another seat first comes nearer.
use mathlib.Core.Path.{◌≡◌}
use Prim.Native.Nat.{ℕ, ◌+◌, ◌-◌, ◌%◌, ◌<◌}
use native.Mathlib.Omega.{arith}
use Rattle.desk.specs.Bounds.{seat_count}

abbrev pub dist : ℕ → ℕ → ℕ
dist last i = (i + 15 - last) % seat_count + 1

pub there : (last i : ℕ) → last < seat_count → i < seat_count → (last + dist last i) % seat_count ≡ i
there last i a b = omega arith

pub nearer : (last i j : ℕ) → last < seat_count → i < seat_count → last < j → j < last + dist last i → dist (j % seat_count) i < dist last i
nearer last i j a b c e = omega arith

pub not_there : (last i j : ℕ) → last < seat_count → i < seat_count → last < j → j < last + dist last i → i ≡ j % seat_count → ⊥
not_there last i j a b c e h = omega arith
