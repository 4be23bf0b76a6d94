use Rattle.std.proofs.Common.{◌≡◌, ◌++◌, take}
use Rattle.numerals.proofs.Text.push_all.Given as goal

abbrev pub invariant-loop-b : goal.invariant-loop-b
invariant-loop-b g l = l.self ≡ l.initial.self ++ take l.b-index l.s
