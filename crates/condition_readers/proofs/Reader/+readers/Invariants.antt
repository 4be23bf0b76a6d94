-- At each turn of the cycle text has been read, or the rank is lower (Falls.antt).
use Rattle.std.proofs.Common.{◌≡◌, ◌+◌, ◌-◌, ◌<◌, ◌≤◌, length}
use Rattle.condition_readers.specs.Carried.{chain_read, more_read}
use Rattle.condition_readers.proofs.Falls.{measure, rank, behind}
use Rattle.condition_readers.proofs.Reader.+readers.Given as goal

abbrev pub decreases-chain : goal.decreases-chain
decreases-chain l = measure l.self.now.text.now l.at (rank l.rule + 1)

abbrev pub decreases-factor : goal.decreases-factor
decreases-factor l = measure l.self.now.text.now l.at 1

abbrev pub decreases-inner : goal.decreases-inner
decreases-inner l = behind l.self.now.text.now l.start

abbrev pub decreases-operand : goal.decreases-operand
decreases-operand l = measure l.self.now.text.now l.at (rank l.rule)

abbrev pub decreases-test : goal.decreases-test
decreases-test l = measure l.self.now.text.now l.at 4

-- what was read ends past the offset at which the chain began, and what follows it is what follows in the whole chain
abbrev pub invariant-chain-loop-joint : goal.invariant-chain-loop-joint
invariant-chain-loop-joint l =
    (chain_read l.self l.depth l.rule l.at l.mode ≡ more_read l.self l.depth l.rule l.mode l.left) × (l.at < l.left.end) × (l.left.end ≤ length l.self.text.now)

abbrev pub decreases-chain-loop-joint : goal.decreases-chain-loop-joint
decreases-chain-loop-joint l = length l.self.text.now - l.left.end
