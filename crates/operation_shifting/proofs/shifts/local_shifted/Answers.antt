use Rattle.value.proofs.ClockLaws.{ticks_to}
use Rattle.value_instants.proofs.Within.{timed}
use Rattle.operation_quantities.specs.Results.{at_ticks}
use Prim.Native.Nat.{ℕ, ◌-◌}
use Rattle.value.specs.Carried.{span_of}
use borrow.Author.Tests.{ltb-true, ltb-false}
use native.Mathlib.Omega.{arith}
use mathlib.Core.Path.{ap, sym, ◌∙◌}
use Rattle.operation_shifting.proofs.Halves.{taken_off, added_on}
use Rattle.operation_quantities.proofs.Spanned.{part_of, seconds_of, ticks_of_lem, spans_order, spans_sum, span_at_ticks}
use Rattle.operation_shifting.proofs.Steps.{before_ticks}
use Rattle.operation_shifting.proofs.shifts.local_shifted.Goals as goal

pub is_less-requires : goal.is_less-requires
is_less-requires c = (part_of _ _ c.local-local.ensures, part_of _ _ c.size-amount.ensures)

pub returns-then-is_less : goal.returns-then-is_less
returns-then-is_less c = c.refused.ensures ∙ before_ticks _ _ _ _ _ c.if-t.true (ltb-true _ _ (sym (spans_order _ _ _ _ c.local-local.ensures c.size-amount.ensures) ∙ sym c.is_less.ensures ∙ c.if-is_less.true))

pub minus-requires : goal.minus-requires
minus-requires c = (part_of _ _ c.local-local.ensures, part_of _ _ c.size-amount.ensures, ltb-false _ _ (sym c.is_less.ensures ∙ c.if-is_less.false))

pub at_ticks-requires : goal.at_ticks-requires
at_ticks-requires c = part_of _ _ c.minus.ensures

pub returns-then-t : goal.returns-then-t
returns-then-t c = c.at_ticks.ensures ∙ span_at_ticks _ _ _ _ (c.minus.ensures ∙ (λ i. span_of (ticks_of_lem _ _ c.local-local.ensures i - ticks_of_lem _ _ c.size-amount.ensures i))) ∙ ap (λ (t : ℕ). at_ticks c.args.kind t c.args.d.zone) (taken_off _ _ _ c.if-t.true)

pub plus-requires : goal.plus-requires
plus-requires c = (part_of _ _ c.local-local.ensures, part_of _ _ c.size-amount.ensures, omega (arith, seconds_of _ _ c.local-local.ensures, seconds_of _ _ c.size-amount.ensures, (timed _ c.requires.0).local_few, ticks_to _ c.requires.1))

pub at_ticks-requires-2 : goal.at_ticks-requires-2
at_ticks-requires-2 c = part_of _ _ c.plus.ensures

pub returns : goal.returns
returns c = c.at_ticks-2.ensures ∙ span_at_ticks _ _ _ _ (c.plus.ensures ∙ spans_sum _ _ _ _ c.local-local.ensures c.size-amount.ensures) ∙ ap (λ (t : ℕ). at_ticks c.args.kind t c.args.d.zone) (added_on _ _ _ c.if-t.false)
