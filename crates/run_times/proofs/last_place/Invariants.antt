use Prim.Native.Nat.{◌-◌, ◌≤◌, ◌<◌}
use Rattle.run_times.specs.Occurrences.{most_occurrences, count_of}
use Rattle.run_times.specs.Carried.{span_times}
use Rattle.run_times.proofs.last_place.Given as goal

abbrev pub invariant-loop-low : goal.invariant-loop-low
invariant-loop-low l = (l.low < count_of (span_times l.r)) × (count_of (span_times l.r) ≤ l.high) × (l.high ≤ most_occurrences)

abbrev pub decreases-loop-low : goal.decreases-loop-low
decreases-loop-low l = l.high - l.low
