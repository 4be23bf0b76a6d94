use native.Mathlib.Omega.{arith}
use Rattle.output_lines.proofs.Widths.{one_fits}
use Rattle.output_lines.proofs.refused_line.Goals as goal

pub line_with-requires : goal.line_with-requires
line_with-requires c = one_fits _ c.args.number (omega arith) (omega arith)
