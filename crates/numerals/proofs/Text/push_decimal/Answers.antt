use Rattle.numerals.proofs.Decimals.{decimal_digits}
use Rattle.numerals.proofs.Text.push_decimal.Goals as goal

pub returns : goal.returns
returns g c = rw (c.push_digits.ensures, c.width.ensures, decimal_digits)
