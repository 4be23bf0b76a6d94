use mathlib.Core.Path.{sym, ◌∙◌}
use Rattle.operation_quantities.proofs.Spanned.{part_of, spans_order}
use Rattle.operation_ordering.proofs.order_of.Goals as goal

pub is_less-requires : goal.is_less-requires
is_less-requires c = (part_of _ _ c.side-p.ensures, part_of _ _ c.side-q.ensures)

pub returns-then-is_less : goal.returns-then-is_less
returns-then-is_less c = simp (sym (spans_order _ _ _ _ c.side-p.ensures c.side-q.ensures) ∙ sym c.is_less.ensures ∙ c.if-is_less.true)

pub is_less-requires-2 : goal.is_less-requires-2
is_less-requires-2 c = (part_of _ _ c.side-q.ensures, part_of _ _ c.side-p.ensures)

pub returns-then-is_less-2 : goal.returns-then-is_less-2
returns-then-is_less-2 c = simp (sym (spans_order _ _ _ _ c.side-p.ensures c.side-q.ensures) ∙ sym c.is_less.ensures ∙ c.if-is_less.false, sym (spans_order _ _ _ _ c.side-q.ensures c.side-p.ensures) ∙ sym c.is_less-2.ensures ∙ c.if-is_less-2.true)

pub returns : goal.returns
returns c = simp (sym (spans_order _ _ _ _ c.side-p.ensures c.side-q.ensures) ∙ sym c.is_less.ensures ∙ c.if-is_less.false, sym (spans_order _ _ _ _ c.side-q.ensures c.side-p.ensures) ∙ sym c.is_less-2.ensures ∙ c.if-is_less-2.false)
