use Rattle.std.proofs.Common.{◌≡◌, ◌-◌, length}
use Rattle.condition_readers.specs.Carried.{multiplied_read}
use Rattle.condition_readers.proofs.Reader.multiplied.Given as goal

-- what is read on from here is what was read on from the beginning
abbrev pub invariant-loop-by : goal.invariant-loop-by
invariant-loop-by l = multiplied_read l.fn.self l.fn.left ≡ multiplied_read l.self l.left

abbrev pub decreases-loop-by : goal.decreases-loop-by
decreases-loop-by l = length l.self.text.now - l.left.end
