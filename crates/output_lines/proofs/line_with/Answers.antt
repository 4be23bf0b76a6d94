use Prim.Native.Nat.{ℕ}
use native.Mathlib.Omega.{arith}
use lib.ListN.{length-append}
use Rattle.output_lines.proofs.Widths.{line_length}
use Rattle.output_lines.proofs.Writing.{one_more, room, end_fits, ended}
use Rattle.output_lines.proofs.line_with.Goals as goal

pub from_slice-line-requires : goal.from_slice-line-requires
from_slice-line-requires c = (omega arith, omega (arith, line_length c.args.word.now c.args.numbers.now))

pub push-requires : goal.push-requires
push-requires c = (omega arith, omega (arith, room _ _ _ _ c.loop-n.invariant c.loop-n-test.true c.requires))

pub push_decimal-requires : goal.push_decimal-requires
push_decimal-requires c = (omega arith, rw (c.push.ensures, length-append {A = ℕ}) (omega (arith, room _ _ _ _ c.loop-n.invariant c.loop-n-test.true c.requires)))

pub loop-n-preserved : goal.loop-n-preserved
loop-n-preserved c = rw (c.push_decimal.ensures, c.push.ensures) (one_more _ _ _ _ c.loop-n.invariant c.loop-n-test.true)

pub push-requires-2 : goal.push-requires-2
push-requires-2 c = (omega arith, end_fits _ _ _ _ c.loop-n.invariant c.loop-n-test.false c.requires)

pub returns : goal.returns
returns c = rw c.push-2.ensures (ended _ _ _ _ c.loop-n.invariant c.loop-n-test.false)
