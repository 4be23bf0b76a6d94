use mathlib.Core.List.{append_assoc}
use native.Mathlib.Omega.{arith}
use lib.ListN.{length-append}
use Rattle.numerals.proofs.Fractions.{fraction_short}
use Rattle.calls_replies.specs.Replies.{number_text}
use Rattle.calls_replies.proofs.NumberTexts.{sign_short, digits_fit}
use Rattle.calls_replies.proofs.numbers.push_number.Goals as goal

pub push_decimal-requires : goal.push_decimal-requires
push_decimal-requires c =
    (omega arith, rw (c.push_sign.ensures, c.push_all.ensures) (simp length-append (omega (arith, sign_short c.args.negative, digits_fit c.args.n c.ranges.n.fits))))

pub push_fraction-requires : goal.push_fraction-requires
push_fraction-requires c =
    (omega arith, rw (c.push_decimal.ensures, c.push_sign.ensures, c.push_all.ensures) (simp length-append (omega (arith, sign_short c.args.negative, digits_fit c.args.n c.ranges.n.fits, fraction_short c.args.ticks))))

pub returns-clause-text : goal.returns-clause-text
unfolding number_text
returns-clause-text c = rw (c.push_fraction.ensures, c.push_decimal.ensures, c.push_sign.ensures, c.push_all.ensures) (simp append_assoc)

pub returns-clause-within : goal.returns-clause-within
returns-clause-within c =
    rw (c.push_fraction.ensures, c.push_decimal.ensures, c.push_sign.ensures, c.push_all.ensures) (simp length-append (omega (arith, sign_short c.args.negative, digits_fit c.args.n c.ranges.n.fits, fraction_short c.args.ticks)))
