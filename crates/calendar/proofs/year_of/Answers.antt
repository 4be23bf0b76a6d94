use mathlib.Core.Path.{subst}
use Prim.Native.Nat.{ℕ, ◌+◌}
use native.Mathlib.Omega.{arith}
use Rattle.calendar.specs.Cycle.{early_year, HoldsDay}
use Rattle.calendar.proofs.Cycle.{early_before, early_year_lem, found_early, found_next, year_by_cycle_lem}
use Rattle.calendar.proofs.Years.{years_next}
use Rattle.calendar.proofs.year_of.Goals as goal

pub returns-then-start-n : goal.returns-then-start-n
returns-then-start-n c = (omega arith, omega arith, λ h. omega arith)

pub overflow_cast-cycles : goal.overflow_cast-cycles
overflow_cast-cycles c =
    let a = c.args in
    omega (arith, early_before a.n a.last (omega arith))

pub overflow_mul-early : goal.overflow_mul-early
overflow_mul-early c =
    let a = c.args in
    omega (arith, early_before a.n a.last (omega arith))

pub overflow_add-early : goal.overflow_add-early
overflow_add-early c =
    let a = c.args in
    omega (arith, early_before a.n a.last (omega arith))

pub overflow_sub-left : goal.overflow_sub-left
overflow_sub-left c = omega (arith, (early_year_lem c.args.n).0)

pub returns-then-left-len : goal.returns-then-left-len
returns-then-left-len c =
    let a = c.args in
    let y : ℕ = early_year a.n in
    let h : HoldsDay y a.n = subst (λ (x : ℕ). HoldsDay x a.n) (found_early a.n (omega arith)) (year_by_cycle_lem a.n) in
    (omega (arith, h.starts), omega (arith, early_before a.n a.last (omega arith)), λ g. omega arith)

pub overflow_add-result : goal.overflow_add-result
overflow_add-result c =
    let a = c.args in
    omega (arith, early_before a.n a.last (omega arith))

pub returns : goal.returns
returns c =
    let a = c.args in
    let y : ℕ = early_year a.n in
    let h : HoldsDay (y + 1) a.n = subst (λ (x : ℕ). HoldsDay x a.n) (found_next a.n (omega arith)) (year_by_cycle_lem a.n) in (
      omega (arith, h.starts, years_next y),
      omega (arith, early_before a.n a.last (omega arith)),
      λ g. omega (arith, h.starts, h.ends, years_next y, years_next (y + 1)),
    )
