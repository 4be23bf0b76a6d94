use mathlib.Core.Path.{◌≡◌}
use mathlib.Core.List.{◌++◌}
use lib.ListN.{drop}
use Rattle.output_lines.specs.Text.{numbers}
use Rattle.output_lines.proofs.line_with.Given as goal

abbrev pub invariant-loop-n : goal.invariant-loop-n
invariant-loop-n l = l.line ++ numbers (drop l.n-index l.numbers) ≡ l.word ++ numbers l.numbers
