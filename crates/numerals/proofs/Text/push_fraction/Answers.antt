use mathlib.Core.List.{append_assoc, append-nil}
use Prim.Native.Nat.{ℕ}
use native.Mathlib.Omega.{arith}
use borrow.Author.Rules.{rules}
use lib.ListN.{length-append}
use Rattle.numerals.proofs.Fractions.{no_fraction, a_fraction, strip_length}
use Rattle.numerals.proofs.Text.push_fraction.Goals as goal

pub returns-then-ticks-eq0 : goal.returns-then-ticks-eq0
returns-then-ticks-eq0 g c = rw (no_fraction c.args.ticks c.if-ticks-eq0.true, append-nil)

pub push-requires : goal.push-requires
push-requires g c = (search rules, omega (arith, strip_length _ c.if-ticks-eq0.false c.strip-kept.ensures))

pub push_digits-requires : goal.push_digits-requires
push_digits-requires g c =
    (search rules, rw (c.push.ensures, length-append {A = ℕ}) (omega (arith, strip_length _ c.if-ticks-eq0.false c.strip-kept.ensures)))

pub returns : goal.returns
returns g c = rw (c.push_digits.ensures, c.push.ensures, c.strip-kept.ensures, a_fraction c.args.ticks c.if-ticks-eq0.false, append_assoc)
