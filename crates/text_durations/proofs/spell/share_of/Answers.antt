use Rattle.text_forms.proofs.Weights.{weight_some}
use Rattle.text_durations.proofs.Written.{month_share, second_share}
use native.Mathlib.Omega.{arith}
use mathlib.Core.Path.{sym, ◌∙◌}
use Rattle.text_durations.proofs.spell.share_of.Goals as goal

pub nonzero_div-result : goal.nonzero_div-result
nonzero_div-result c = let h = weight_some _ _ c.weight-w.ensures in omega arith

pub returns-then-counts_months : goal.returns-then-counts_months
returns-then-counts_months c = month_share _ _ c.args.sums c.weight-w.ensures (sym c.counts_months.ensures ∙ c.if-counts_months.true)

pub nonzero_div-result-else-counts_months : goal.nonzero_div-result-else-counts_months
nonzero_div-result-else-counts_months c = let h = weight_some _ _ c.weight-w.ensures in omega arith

pub returns-else-counts_months : goal.returns-else-counts_months
returns-else-counts_months c = second_share _ _ c.args.sums c.weight-w.ensures (sym c.counts_months.ensures ∙ c.if-counts_months.false)
