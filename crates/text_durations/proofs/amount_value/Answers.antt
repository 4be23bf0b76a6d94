use Rattle.value.specs.Bounds.{max_year_month}
use native.Mathlib.Omega.{arith}
use mathlib.Core.Path.{ap, sym, ◌∙◌}
use borrow.Author.Tests.{leb-true}
use Rattle.basis.proofs.Tests.{both_left}
use Rattle.value.specs.declared.Value.TheVariants as VV
use Rattle.text_durations.specs.Walks.{amount_value}
use Rattle.text_durations.proofs.amount_value.Goals as goal

pub overflow_cast-result : goal.overflow_cast-result
overflow_cast-result c = omega (arith, leb-true c.args.a.sums.months max_year_month (both_left _ _ c.requires.1))

pub returns-then-months : goal.returns-then-months
returns-then-months c = sym (λ i. amount_value (c.if-months.true i) c.args.a)

pub returns : goal.returns
returns c = ap VV.DayTime c.lasting.ensures ∙ sym (λ i. amount_value (c.if-months.false i) c.args.a)
