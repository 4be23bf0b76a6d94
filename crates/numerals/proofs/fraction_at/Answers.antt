use Rattle.numerals.proofs.Fractions.{too_many, ticks_fit, some_ticks}
use Rattle.numerals.proofs.fraction_at.Goals as goal

pub returns-then-count-gt-FRACTION_DIGITS : goal.returns-then-count-gt-FRACTION_DIGITS
returns-then-count-gt-FRACTION_DIGITS c = too_many _ _ c.pow.ensures _ c.digits-end.ensures c.if-count-gt-FRACTION_DIGITS.true

pub overflow_cast-result : goal.overflow_cast-result
overflow_cast-result c = ticks_fit _ _ c.pow.ensures _ c.digits-end.ensures c.if-count-gt-FRACTION_DIGITS.false c.pow-2.ensures

pub returns : goal.returns
returns c = some_ticks _ _ c.pow.ensures _ c.digits-end.ensures c.if-count-gt-FRACTION_DIGITS.false c.pow-2.ensures
