use mathlib.Core.Path.{subst, ap, ◌∙◌, ◌≡◌}
use native.Mathlib.Omega.{arith}
use Prim.Native.Nat.{ℕ}
use Rattle.timetable.specs.Fields.{has_field}
use Rattle.timetable.specs.Carried.{StartsAt}
use Rattle.timetable.proofs.Parting.{offset_within}
use Rattle.timetable.proofs.Counting.{no_field_zero}
use Rattle.timetable.proofs.Tabs.{first_start, next_start, last_start}
use Rattle.timetable.proofs.fields.start_of.Goals as goal

pub returns-then-n-eq0 : goal.returns-then-n-eq0
returns-then-n-eq0 c = ap (has_field _) c.if-n-eq0.true ∙ no_field_zero _

pub loop-earlier-init : goal.loop-earlier-init
loop-earlier-init c = first_start _

pub returns-then-tab-line : goal.returns-then-tab-line
returns-then-tab-line c = last_start _ _ _ c.loop-earlier.invariant _ c.offset_of-tab.ensures (omega arith) _ (omega arith)

pub overflow_add-at : goal.overflow_add-at
overflow_add-at c = omega (arith, offset_within _ _ _ c.loop-earlier.invariant.within c.offset_of-tab.ensures)

pub loop-earlier-preserved : goal.loop-earlier-preserved
loop-earlier-preserved c =
    next_start _ _ _ c.loop-earlier.invariant _ c.offset_of-tab.ensures (omega (arith, offset_within _ _ _ c.loop-earlier.invariant.within c.offset_of-tab.ensures))

pub returns : goal.returns
returns c =
    let e : c.loop-earlier._earlier ≡ c.args.n = omega arith in
    subst (λ (k : ℕ). StartsAt c.loop-earlier.at c.args.line.now k) e c.loop-earlier.invariant
