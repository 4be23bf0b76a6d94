use Rattle.text_durations.proofs.Written.{step, room, all_written, all_left}
use Rattle.text_durations.proofs.spell.shown_all.Goals as goal

pub shown-requires : goal.shown-requires
shown-requires c = room _ _ _ _ _ _ _ _ c.loop-letter.invariant c.loop-letter-test.true c.share_of.ensures c.requires

pub loop-letter-preserved : goal.loop-letter-preserved
loop-letter-preserved c = step _ _ _ _ _ _ _ _ c.loop-letter.invariant c.loop-letter-test.true c.share_of.ensures c.shown.ensures c.rest_of-left.ensures

pub returns-clause-written : goal.returns-clause-written
returns-clause-written c = all_written _ _ _ _ _ _ _ _ c.loop-letter.invariant c.loop-letter-test.false

pub returns-clause-rest : goal.returns-clause-rest
returns-clause-rest c = all_left _ _ _ _ _ _ _ _ c.loop-letter.invariant c.loop-letter-test.false
