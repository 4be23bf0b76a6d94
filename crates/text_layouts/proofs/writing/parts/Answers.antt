use Rattle.text_layouts.proofs.Pieces.{part_fits, step, finish}
use Rattle.text_layouts.proofs.writing.parts.Goals as goal

pub part-requires : goal.part-requires
part-requires c = (part_fits _ _ _ c.loop-p.invariant c.loop-p-test.true, c.requires.1)

pub loop-p-preserved : goal.loop-p-preserved
loop-p-preserved c = step _ _ _ c.loop-p.invariant c.loop-p-test.true c.part.ensures

pub returns : goal.returns
returns c = finish _ _ _ c.loop-p.invariant c.loop-p-test.false
