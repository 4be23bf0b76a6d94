use Prim.Native.Nat.{◌-◌}
use Rattle.basis.proofs.Tests.{no, yes as good}
use Rattle.value.proofs.Good as Good
use Rattle.operation_shifting.specs.Shifts.{moved, month_of}
use native.Mathlib.Omega.{arith}
use mathlib.Core.Path.{◌≡◌, ◌∙◌}
use Rattle.operation_shifting.proofs.Halves.{taken_off, added_on}
use Rattle.operation_shifting.proofs.Steps.{months_moved, before_months}
use Rattle.operation_shifting.proofs.months.moved.Goals as goal

pub returns-then-not-is_dated : goal.returns-then-not-is_dated
unfolding moved
returns-then-not-is_dated c = simp (← c.refused.ensures, no c.is_dated.ensures c.if-not-is_dated.true)

pub overflow_sub-t : goal.overflow_sub-t
overflow_sub-t c = omega (arith, (Good.good _ c.requires.0).day.date.month_from)

pub returns-then-t-m : goal.returns-then-t-m
returns-then-t-m c = c.refused-then-t-m.ensures ∙ before_months _ _ _ _ (good c.is_dated.ensures c.if-not-is_dated.false) (let y : 0 ≡ month_of c.args.d - c.args.m.months = omega (arith, c.if-t-m.true) in y ∙ taken_off _ _ _ c.if-m.true)

pub returns-then-m : goal.returns-then-m
returns-then-m c = c.moved_to.ensures ∙ months_moved _ _ _ _ (good c.is_dated.ensures c.if-not-is_dated.false) _ (taken_off _ _ _ c.if-m.true)

pub returns : goal.returns
returns c = c.moved_to-2.ensures ∙ months_moved _ _ _ _ (good c.is_dated.ensures c.if-not-is_dated.false) _ (added_on _ _ _ c.if-m.false)
