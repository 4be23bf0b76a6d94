use Rattle.output_lines.proofs.Widths.{idle_fits}
use Rattle.output_lines.proofs.turn_line.Goals as goal

pub line_with-requires : goal.line_with-requires
line_with-requires c = idle_fits
