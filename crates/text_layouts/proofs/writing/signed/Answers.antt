use native.Mathlib.Omega.{arith}
use lib.ListN.{length-append}
use Rattle.numerals.proofs.Decimals.{length_digits}
use Rattle.text_layouts.proofs.writing.signed.Goals as goal

pub push-requires-2 : goal.push-requires-2
push-requires-2 c = (omega arith, rw (c.push_digits.ensures, c.push.ensures) (simp (length-append, length_digits) (omega arith)))

pub push_digits-requires-2 : goal.push_digits-requires-2
push_digits-requires-2 c = (omega arith, rw (c.push-2.ensures, c.push_digits.ensures, c.push.ensures) (simp (length-append, length_digits) (omega arith)))
