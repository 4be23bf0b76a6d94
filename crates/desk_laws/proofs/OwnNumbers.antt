-- The numbers of Open's checks of a condition are none of the desk's own: they are 9 at most.
use mathlib.Core.Path.{◌≡◌, refl}
use mathlib.Core.Bool.{Bool, true, false}
use mathlib.Core.List.{List}
use Prim.Native.Nat.{ℕ, ◌≤◌}
use native.Mathlib.Omega.{arith}
use borrow.Author.Tests.{eqb-true}
use lib.Dec.{eqb}
use Rattle.basis.specs.Choice.{pick}
use Rattle.basis.specs.Answer.{Reason, refuses_for}
use Rattle.value.specs.Refusals.{bad_text, beyond_bounds, long_fraction, bad_condition, too_deep, wrong_kind}
use Rattle.condition.specs.Condition.{check_of}
use Rattle.condition.specs.Laws.{at_open}
use Rattle.condition.proofs.OpenNumbers.{open_numbers}

low : (n : ℕ) → at_open n ≡ true → n ≤ wrong_kind
low n h = by (eqb n bad_text) (eqb n beyond_bounds) (eqb n long_fraction) (eqb n bad_condition) (eqb n too_deep) refl refl refl refl refl h
  where
    by : (a b c d f : Bool) → eqb n bad_text ≡ a → eqb n beyond_bounds ≡ b → eqb n long_fraction ≡ c → eqb n bad_condition ≡ d → eqb n too_deep ≡ f
        → pick (pick a true (pick b true c)) true (pick d true (pick f true (eqb n wrong_kind))) ≡ true → n ≤ wrong_kind
    by true b c d f p q r s u e = omega (arith, eqb-true n bad_text p)
    by false true c d f p q r s u e = omega (arith, eqb-true n beyond_bounds q)
    by false false true d f p q r s u e = omega (arith, eqb-true n long_fraction r)
    by false false false true f p q r s u e = omega (arith, eqb-true n bad_condition s)
    by false false false false true p q r s u e = omega (arith, eqb-true n too_deep u)
    by false false false false false p q r s u e = omega (arith, eqb-true n wrong_kind e)

pub own_low : (s : List ℕ) (r : Reason) → check_of s ≡ refuses_for r → r.number ≤ wrong_kind
own_low s r e = low r.number (open_numbers s r e)
