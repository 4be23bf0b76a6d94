use Rattle.calls_asked.proofs.Wholes.{after_minus, with_minus, without}
use Rattle.calls_asked.proofs.forms.whole.Goals as goal

pub whole_from-requires : goal.whole_from-requires
whole_from-requires c = after_minus c.args.s.now c.byte.ensures c.if-byte-eq45.true

pub returns-then-byte-eq45 : goal.returns-then-byte-eq45
returns-then-byte-eq45 c = with_minus c.args.s.now c.byte.ensures c.if-byte-eq45.true c.whole_from.ensures

pub returns : goal.returns
returns c = without c.args.s.now c.byte.ensures c.if-byte-eq45.false c.whole_from-2.ensures
