-- Answers of equal meaning are equal.
use Rattle.std.specs.Prelude.{Err, Ok, Result, ℕ}
use mathlib.Core.Path.{◌≡◌, refl, ap}
use Prim.Native.Nat.{ℕ}
use Rattle.basis.specs.Answer.{Answer, gives, refuses_for}
use Rattle.value.specs.Reasons.{refusal_of}
use Rattle.text.specs.Writing.{written_meaning}
use Rattle.value.specs.declared.Refusal.{Refusal}

abbrev written_of : Answer ℕ → Result ℕ Refusal
written_of (gives n) = Ok n
written_of (refuses_for r) = Err (refusal_of r)

written_back : (a : Result ℕ Refusal) → written_of (written_meaning a) ≡ a
written_back (Ok n) = refl
written_back (Err r) = refl

pub written_determined : (a b : Result ℕ Refusal) → written_meaning a ≡ written_meaning b → a ≡ b
written_determined a b e = cc (ap written_of e, written_back a, written_back b)
