use mathlib.Core.Path.{◌∙◌}
use Rattle.operation_quantities.proofs.Spanned.{part_of}
use Rattle.operation_arithmetic.proofs.Opposites.{opposite_made}
use Rattle.operation_arithmetic.proofs.sums.opposite.Goals as goal

pub is_less-requires : goal.is_less-requires
is_less-requires c = (part_of _ _ c.minus_ticks-q.ensures, part_of _ _ c.plus_ticks-p.ensures)

pub lasting-requires : goal.lasting-requires
lasting-requires c = part_of _ _ c.size.ensures

pub returns : goal.returns
returns c = c.lasting.ensures ∙ opposite_made _ _ _ _ _ c.plus_ticks-p.ensures c.minus_ticks-q.ensures c.is_less.ensures c.size.ensures
