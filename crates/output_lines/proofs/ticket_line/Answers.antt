use native.Mathlib.Omega.{arith}
use Rattle.output_lines.proofs.Widths.{three_fit}
use Rattle.output_lines.proofs.ticket_line.Goals as goal

pub line_with-requires : goal.line_with-requires
line_with-requires c = three_fit _ c.args.ticket c.args.a c.args.b c.requires.0 (omega arith) c.requires.1 c.requires.2
