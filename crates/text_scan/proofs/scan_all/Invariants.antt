use mathlib.Core.Bool.{true}
use Rattle.text_scan.specs.Carried.{scan}
use Rattle.text_scan.proofs.Along.{Going}
use Rattle.text_scan.proofs.scan_all.Given as goal

abbrev pub invariant-loop-p : goal.invariant-loop-p
invariant-loop-p l = Going l.layout l.s (scan true l.initial.t) (scan true l.t) l.p-index
