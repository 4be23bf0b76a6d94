-- Reading a value is refused with 1, 2 or 3, which are among the numbers that a result at a row can have.
use mathlib.Core.Path.{◌≡◌, refl}
use mathlib.Core.Bool.{Bool, true, false}
use mathlib.Core.List.{List}
use Prim.Native.Nat.{ℕ}
use native.Mathlib.Omega.{arith}
use lib.Dec.{eqb}
use Rattle.basis.specs.Choice.{pick}
use Rattle.basis.specs.Answer.{Answer, gives, refuses_for}
use Rattle.value.specs.Refusals.{bad_text, beyond_bounds, long_fraction, beyond_result, no_field}
use Rattle.value.specs.declared.Kind.{Kind}
use Rattle.value.specs.declared.Value.{Value}
use Rattle.text.specs.Reading.{read_as}
use Rattle.text.proofs.Numbers.{read_refuses}
use Rattle.condition_parts.specs.Numbers.{of_text}
pub use Rattle.condition_parts.specs.Numbers.{at_row}

-- a number that a value's text can have is one that a result at a row can have
pub text_at_row : (n : ℕ) → of_text n ≡ true → at_row n ≡ true
text_at_row n h = by (eqb n bad_text) (eqb n beyond_bounds) (eqb n long_fraction) h
  where
    by : (a b c : Bool) → pick a true (pick b true c) ≡ true → pick a true (pick b true (pick c true (pick (eqb n beyond_result) true (eqb n no_field)))) ≡ true
    by true b c h = refl
    by false true c h = refl
    by false false true h = refl
    by false false false h = let z : ◌≡◌ {A = ℕ} 0 1 = cc in absurd (omega arith)

-- an answer whose number is one of a value's text, if it is a refusal
abbrev pub Only : {A : Type 0} → Answer A → Type 0
Only (gives v) = Unit {0}
Only (refuses_for r) = of_text r.number ≡ true

-- reading a value is refused with one of them
pub read_only : (k : Kind) (s : List ℕ) → Only (read_as k s)
read_only k s = by (read_as k s) refl
  where
    listed : (a b c : Bool) → pick a true (pick b true (pick c true false)) ≡ true → pick a true (pick b true c) ≡ true
    listed true b c h = refl
    listed false true c h = refl
    listed false false true h = refl
    listed false false false h = h

    by : (x : Answer Value) → read_as k s ≡ x → Only x
    by (gives v) e = tt
    by (refuses_for r) e = listed (eqb r.number bad_text) (eqb r.number beyond_bounds) (eqb r.number long_fraction) (read_refuses k s r e)
