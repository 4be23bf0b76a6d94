use Rattle.value.specs.Carried.{ticks_of}
use Rattle.value_instants.proofs.TwoParts.{order_by_part}
use borrow.Author.Tests.{lt-ltb, le-ltb}
use native.Mathlib.Omega.{arith}
use mathlib.Core.Path.{sym}
use borrow.Author.Tests.{le-ltb, lt-ltb}
use Rattle.value_instants.proofs.spans.is_less.Goals as goal

pub returns-then-a-b : goal.returns-then-a-b
returns-then-a-b c = sym (lt-ltb (ticks_of c.args.a) (ticks_of c.args.b) (omega arith))

pub returns-then-b-a : goal.returns-then-b-a
returns-then-b-a c = sym (le-ltb (ticks_of c.args.a) (ticks_of c.args.b) (omega arith))

pub returns : goal.returns
returns c = order_by_part c.args.a.seconds c.args.b.seconds c.args.a.part c.args.b.part (omega arith)
