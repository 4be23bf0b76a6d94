use Rattle.text_scan.proofs.Along.{step, stopped, finish}
use Rattle.text_scan.proofs.scan_all.Goals as goal

pub returns-then-not-part : goal.returns-then-not-part
returns-then-not-part c = stopped _ _ _ _ _ c.loop-p.invariant c.loop-p-test.true c.part.ensures c.if-not-part.true

pub loop-p-preserved : goal.loop-p-preserved
loop-p-preserved c = step _ _ _ _ _ c.loop-p.invariant c.loop-p-test.true c.part.ensures c.if-not-part.false c.requires.1

pub returns : goal.returns
returns c = finish _ _ _ _ _ c.loop-p.invariant c.loop-p-test.false
