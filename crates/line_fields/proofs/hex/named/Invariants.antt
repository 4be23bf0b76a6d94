use mathlib.Core.Path.{◌≡◌}
use Rattle.line_fields.proofs.HexLaws.{Read}
use Rattle.line_fields.proofs.hex.named.Given as goal

abbrev pub invariant-loop-i : goal.invariant-loop-i
invariant-loop-i l = Read l.s l.i-iterator.iter.rest.now l.bytes l.i-iterator.count × (l.i-iterator.iter.size ≡ 2)
