use Prim.Native.Nat.{◌≤◌}
use mathlib.Core.Path.{◌≡◌}
use lib.ListN.{drop}
use Rattle.condition_depth.specs.Depth.{deep, deep_from}
use Rattle.condition_depth.proofs.too_deep.Given as goal

abbrev pub invariant-loop-b : goal.invariant-loop-b
invariant-loop-b l = (l.opened ≤ l.b-index) × (l.closed ≤ l.b-index) × (deep l.s ≡ deep_from l.opened l.closed l.quoted (drop l.b-index l.s))
