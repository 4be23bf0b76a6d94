use Prim.Native.Nat.{◌+◌, ◌-◌}
use mathlib.Core.Path.{◌≡◌, ap, sym, ◌∙◌}
use native.Mathlib.Omega.{arith}
use borrow.Author.Tests.{ltb-true, ltb-false}
use Rattle.basis.proofs.Tests.{no}
use Rattle.value.specs.Carried.{ticks_of}
use Rattle.value_instants.specs.Ticks.{past_years}
use Rattle.value.proofs.Spans.{has_ticks}
use Rattle.run_times.specs.Carried.{span_times}
use Rattle.run_times.proofs.Counts.{one_there}
use Rattle.run_times.proofs.Passing.{passes_empty, none_passes}
use Rattle.run_times.proofs.some_passes.Goals as goal

pub returns-then-is_less : goal.returns-then-is_less
returns-then-is_less c =
    let b = c in
    sym (passes_empty (span_times b.args.r) (ltb-true _ _ (sym c.is_less.ensures ∙ c.if-is_less.true)))

pub minus-whole-requires : goal.minus-whole-requires
minus-whole-requires c =
    let g = c.requires.0.good in
    (g.last.part, g.first.part, ltb-false _ _ (sym c.is_less.ensures ∙ c.if-is_less.false))

pub plus-end-requires : goal.plus-end-requires
plus-end-requires c =
    let g = c.requires.0.good in
    let m = has_ticks c.minus-whole.result _ c.minus-whole.ensures in
    (g.local.part, m.part, omega (arith, g.local.ticks, g.last.ticks, m.ticks))

pub past_years-requires : goal.past_years-requires
past_years-requires c = (has_ticks c.plus-end.result _ c.plus-end.ensures).part

pub returns-then-not-past_years : goal.returns-then-not-past_years
returns-then-not-past_years c =
    let d = c in
    let e = d in
    let b = e in
    let m = has_ticks d.minus-whole.result _ d.minus-whole.ensures in
    let s = has_ticks d.plus-end.result _ d.plus-end.ensures in
    let q : ticks_of d.plus-end.result ≡ ticks_of b.args.r.local + (ticks_of b.args.r.last - ticks_of b.args.r.first) = omega (arith, m.ticks, s.ticks) in
    sym
    (none_passes (span_times b.args.r) b.requires.0.above
    (ap past_years (sym q) ∙ no c.past_years.ensures c.if-not-past_years.true))

pub last_passes-requires : goal.last_passes-requires
last_passes-requires c =
    let e = c in
    let b = e in (
      b.requires.0,
      one_there (span_times b.args.r) (ltb-false _ _ (sym e.is_less.ensures ∙ e.if-is_less.false)),
      b.requires.1,
    )
