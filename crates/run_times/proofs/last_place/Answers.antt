use mathlib.Core.Path.{sym, ◌∙◌}
use native.Mathlib.Omega.{arith}
use Rattle.run_times.specs.Occurrences.{count_of}
use Rattle.run_times.specs.Carried.{span_times}
use borrow.Author.Tests.{ltb-true, ltb-false}
use Rattle.run_times.proofs.last_place.Goals as goal

pub loop-low-init : goal.loop-low-init
loop-low-init c = omega arith

pub overflow_add-low : goal.overflow_add-low
overflow_add-low c = omega arith

pub overflow_add-middle : goal.overflow_add-middle
overflow_add-middle c = omega arith

pub reached-requires : goal.reached-requires
reached-requires c = (c.requires.0, omega arith)

pub loop-low-smaller-then-reached : goal.loop-low-smaller-then-reached
loop-low-smaller-then-reached c = omega arith

pub loop-low-preserved-then-reached : goal.loop-low-preserved-then-reached
loop-low-preserved-then-reached c =
    omega (arith, ltb-true _ (count_of (span_times c.args.r)) (sym c.reached.ensures ∙ c.if-reached.true))

pub loop-low-smaller : goal.loop-low-smaller
loop-low-smaller c = omega arith

pub loop-low-preserved : goal.loop-low-preserved
loop-low-preserved c =
    omega (arith, ltb-false _ (count_of (span_times c.args.r)) (sym c.reached.ensures ∙ c.if-reached.false))

pub returns : goal.returns
returns c = omega arith
