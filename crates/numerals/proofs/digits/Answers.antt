use native.Mathlib.Omega.{arith}
use Rattle.basis.proofs.Tests.{no, yes}
use Rattle.numerals.proofs.Stretches.{a_digit}
use Rattle.numerals.proofs.Passing.{next, at_other, at_end}
use Rattle.numerals.proofs.digits.Goals as goal

pub overflow_sub-b : goal.overflow_sub-b
overflow_sub-b c = omega (arith, a_digit _ (yes c.digit.ensures c.if-not-digit.false))

pub longer-value-requires : goal.longer-value-requires
longer-value-requires c = omega (arith, a_digit _ (yes c.digit.ensures c.if-not-digit.false), c.loop-b.invariant.1.capped)

pub loop-b-preserved : goal.loop-b-preserved
loop-b-preserved c =
    (omega arith, next _ _ _ _ c.loop-b.invariant.1 c.loop-b-test.true (yes c.digit.ensures c.if-not-digit.false) c.longer-value.ensures)

pub returns-after-loop-b : goal.returns-after-loop-b
returns-after-loop-b c = at_end _ _ _ _ _ _ c.requires.0 c.loop-b.invariant.0 c.loop-b.invariant.1 c.loop-b-test.false

pub returns-then-not-digit : goal.returns-then-not-digit
returns-then-not-digit c = at_other _ _ _ _ _ _ c.requires.0 c.loop-b.invariant.0 c.loop-b.invariant.1 c.loop-b-test.true (no c.digit.ensures c.if-not-digit.true)
