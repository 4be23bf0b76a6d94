use borrow.Author.Rules.{rules}
use Rattle.value.proofs.Looking.{next, ended}
use Rattle.value.proofs.kinds.parts_in.Goals as goal
use Rattle.value.proofs.kinds.parts_in.Goals.{in-89, in-77, in-68, in-104, in_default}

pub loop-p-preserved : goal.loop-p-preserved
loop-p-preserved c =
    next _ _ _ _ c.loop-p.invariant c.loop-p-test.true
    (elim c.match-p.branch [ in-89 w ↦ search rules | in-77 w ↦ search rules | in-68 w ↦ search rules | in-104 w ↦ search rules | in_default w ↦ search rules ])

pub returns : goal.returns
returns c = ended _ _ _ c.loop-p.invariant c.loop-p-test.false
