use mathlib.Core.Path.{◌∙◌}
use borrow.Author.Rules.{rules}
use Rattle.basis.specs.Choice.{both}
use Rattle.numerals.specs.Reading.{is_digit}
use Rattle.numerals.proofs.digit.Goals as goal

pub returns : goal.returns
unfolding both is_digit
returns c = c.is_ascii_digit.ensures.value ∙ search rules
