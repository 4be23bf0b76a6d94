use Rattle.text_durations.proofs.Going.{step, finish}
use Rattle.numerals.proofs.Positions.{nonzero}
use Rattle.text_durations.proofs.scan.components.Goals as goal

pub component-t-requires : goal.component-t-requires
component-t-requires c = (c.loop-letter.invariant.within, c.loop-letter.invariant.small, nonzero _ _ c.requires.2 c.loop-letter-test.true)

pub loop-letter-preserved : goal.loop-letter-preserved
loop-letter-preserved c = step _ _ _ _ _ _ c.requires.2 c.loop-letter.invariant c.loop-letter-test.true c.component-t.ensures

pub returns : goal.returns
returns c = finish _ _ _ _ _ _ c.loop-letter.invariant c.loop-letter-test.false
