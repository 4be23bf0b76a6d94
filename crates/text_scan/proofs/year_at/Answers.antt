use Rattle.text_scan.proofs.Years.{small_year, short, all_zeros, leads, a_year}
use native.Mathlib.Omega.{arith}
use Rattle.text_scan.proofs.year_at.Goals as goal

pub returns-then-end-from-lt-YEAR_DIGITS : goal.returns-then-end-from-lt-YEAR_DIGITS
returns-then-end-from-lt-YEAR_DIGITS c = short _ _ _ c.digits-n.ensures c.if-end-from-lt-YEAR_DIGITS.true

pub returns-then-zeros : goal.returns-then-zeros
returns-then-zeros c = all_zeros _ _ _ c.digits-n.ensures c.if-end-from-lt-YEAR_DIGITS.false c.zeros.ensures c.if-zeros.true

pub returns-then-leading : goal.returns-then-leading
returns-then-leading c = leads _ _ _ c.digits-n.ensures c.if-end-from-lt-YEAR_DIGITS.false c.zeros.ensures c.if-zeros.false c.leading.ensures c.if-leading.true

pub overflow_cast-result : goal.overflow_cast-result
overflow_cast-result c = omega (arith, small_year _ _ _ c.digits-n.ensures)

pub returns : goal.returns
returns c = a_year _ _ _ c.digits-n.ensures c.if-end-from-lt-YEAR_DIGITS.false c.zeros.ensures c.if-zeros.false c.leading.ensures c.if-leading.false
