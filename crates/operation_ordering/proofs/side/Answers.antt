use native.Mathlib.Omega.{arith}
use mathlib.Core.Path.{◌∙◌}
use Rattle.operation_ordering.proofs.Reach.{up_to, down_to}
use Rattle.operation_quantities.proofs.Spanned.{part_of, seconds_of, spans_sum}
use Rattle.operation_ordering.proofs.side.Goals as goal

pub plus-requires : goal.plus-requires
plus-requires c = (part_of _ _ c.up-p.ensures, part_of _ _ c.down-q.ensures, omega (arith, seconds_of _ _ c.up-p.ensures, seconds_of _ _ c.down-q.ensures, up_to c.args.given c.args.a c.requires.2 c.requires.0, down_to c.args.given c.args.b c.requires.1))

pub returns : goal.returns
returns c = c.plus.ensures ∙ spans_sum _ _ _ _ c.up-p.ensures c.down-q.ensures
