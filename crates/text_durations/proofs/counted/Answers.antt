use Rattle.text_durations.proofs.Judging.{no_shape, too_long, too_great, is_zero, is_some}
use borrow.Author.Tests.{not-true, not-false}
use Rattle.basis.proofs.Tests.{no, yes}
use mathlib.Core.Path.{sym, ◌∙◌}
use Rattle.text_durations.proofs.counted.Goals as goal

pub returns-then-not-t : goal.returns-then-not-t
returns-then-not-t c = c.refused.ensures ∙ no_shape c.args.t (not-true _ c.if-not-t.true)

pub returns-then-t : goal.returns-then-t
returns-then-t c = c.refused-then-t.ensures ∙ too_long c.args.t (not-false _ c.if-not-t.false) c.if-t.true

pub returns-then-not-within_bounds : goal.returns-then-not-within_bounds
returns-then-not-within_bounds c = c.refused-then-not-within_bounds.ensures ∙ too_great c.args.t (not-false _ c.if-not-t.false) c.if-t.false (no c.within_bounds.ensures c.if-not-within_bounds.true)

pub returns-then-is_nothing : goal.returns-then-is_nothing
returns-then-is_nothing c = is_zero c.args.t (not-false _ c.if-not-t.false) c.if-t.false (yes c.within_bounds.ensures c.if-not-within_bounds.false) (sym c.is_nothing.ensures ∙ c.if-is_nothing.true)

pub returns : goal.returns
returns c = is_some c.args.t (not-false _ c.if-not-t.false) c.if-t.false (yes c.within_bounds.ensures c.if-not-within_bounds.false) (sym c.is_nothing.ensures ∙ c.if-is_nothing.false)
