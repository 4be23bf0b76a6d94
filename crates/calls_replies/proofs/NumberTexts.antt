-- How long a number's text is: never wider than the numbers of a reply; and a signed number that a record keeps.
use mathlib.Core.Path.{◌≡◌}
use mathlib.Core.Bool.{Bool, true, false}
use Prim.Native.Nat.{ℕ, ◌^◌, ◌≤◌, ◌<◌}
use native.Mathlib.Omega.{arith}
use lib.ListN.{length}
use lib.IntN.{ℤ}
use lib.Signed.{mag}
use mir.Syntax.{w32}
use mir.Val.{to_z, of_z}
use mir.ValLaws.{to_z-of_z}
use Rattle.numerals.specs.Writing.{decimal}
use Rattle.numerals.proofs.Decimals.{decimal_le}
use Rattle.calls_replies.specs.Replies.{sign_text}

pub sign_short : (negative : Bool) → length (sign_text negative) ≤ 1
sign_short true = omega arith
sign_short false = omega arith

pub digits_fit : (n : ℕ) → n < 2 ^ 32 → length (decimal n) ≤ 10
digits_fit n h = decimal_le 10 n (omega arith) (omega arith)

-- it is the number
pub kept : (z : ℤ) → mag z < 2 ^ 31 → to_z w32 (of_z w32 z) ≡ z
kept z h = to_z-of_z w32 z (record { sfits = h })
