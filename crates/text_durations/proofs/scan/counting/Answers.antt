use Rattle.text_durations.specs.Carried.{seconds_cap}
use Rattle.text_forms.proofs.Weights.{weighed}
use Rattle.text_durations.proofs.Capping.{counts_month, counts_second}
use native.Mathlib.Omega.{arith}
use mathlib.Core.Path.{sym, ◌∙◌}
use Rattle.text_durations.proofs.scan.counting.Goals as goal

pub overflow_mul-k : goal.overflow_mul-k
overflow_mul-k c = omega (arith, weighed _ _ seconds_cap _ c.weight.ensures c.requires.1)

pub overflow_add-sums : goal.overflow_add-sums
overflow_add-sums c = omega (arith, c.requires.0.0, weighed _ _ seconds_cap _ c.weight.ensures c.requires.1)

pub returns-then-counts_months : goal.returns-then-counts_months
returns-then-counts_months c = counts_month _ _ _ c.args.sums c.requires.0 c.weight.ensures (sym c.counts_months.ensures ∙ c.if-counts_months.true) c.up_to.ensures

pub overflow_add-sums-2 : goal.overflow_add-sums-2
overflow_add-sums-2 c = omega (arith, c.requires.0.1, weighed _ _ seconds_cap _ c.weight.ensures c.requires.1)

pub returns : goal.returns
returns c = counts_second _ _ _ c.args.sums c.requires.0 c.weight.ensures (sym c.counts_months.ensures ∙ c.if-counts_months.false) c.up_to-2.ensures
