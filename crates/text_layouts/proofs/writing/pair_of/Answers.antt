use native.Mathlib.Omega.{arith}
use Rattle.text_layouts.specs.Writing.{pair_of}
use Rattle.text_layouts.proofs.Pieces.{pair_hour, pair_minute, pair_second}
use Rattle.text_layouts.proofs.writing.pair_of.Goals as goal

pub returns-in-77 : goal.returns-in-77
unfolding pair_of
returns-in-77 c = rw c.in-77.is

pub returns-in-68 : goal.returns-in-68
unfolding pair_of
returns-in-68 c = rw c.in-68.is

pub returns-in-104 : goal.returns-in-104
returns-in-104 c = pair_hour c.args.p c.args.d c.clock-seconds.ensures c.in-104.is

pub returns-in-109 : goal.returns-in-109
returns-in-109 c = pair_minute c.args.p c.args.d c.clock-seconds.ensures c.in-109.is

pub returns-in_default : goal.returns-in_default
returns-in_default c = pair_second c.args.p c.args.d c.clock-seconds.ensures (λ e. omega arith) (λ e. omega arith) (λ e. omega arith) (λ e. omega arith)
