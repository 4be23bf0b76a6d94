use mathlib.Core.Path.{sym, ◌∙◌}
use mathlib.Core.Bool.{true, false}
use native.Mathlib.Omega.{arith}
use Rattle.value.proofs.Spans.{has_ticks}
use Rattle.run_times.proofs.OnSpans.{steps_fit, steps, reached_says}
use Rattle.run_times.proofs.reached.Goals as goal

pub times-on-requires : goal.times-on-requires
times-on-requires c =
    let b = c in
    let g = b.requires.0.good.step in
    (g.part, steps_fit b.args.r.step b.args.place g b.requires.1)

pub plus-t-requires : goal.plus-t-requires
plus-t-requires c =
    let b = c in
    let g = b.requires.0.good in
    let x = steps b.args.r.step b.args.place g.step b.requires.1 c.times-on.result c.times-on.ensures in
    (omega (arith, g.first.part, g.local.part), x.part, omega (arith, g.first.ticks, g.local.ticks, x.few_ticks))

pub is_less-requires : goal.is_less-requires
is_less-requires c =
    let l = c.requires.0.good.last.part in
    let a = (has_ticks c.plus-t.result _ c.plus-t.ensures).part in
    (omega arith, omega arith)

pub returns-then-is_less : goal.returns-then-is_less
returns-then-is_less c =
    let d = c in
    let b = d in
    let x = steps b.args.r.step b.args.place b.requires.0.good.step b.requires.1 d.times-on.result d.times-on.ensures in
    let m = has_ticks d.plus-t.result _ d.plus-t.ensures in
    reached_says b.args.r b.args.place d.plus-t.result true b.requires.0 (omega (arith, x.ticks, m.ticks)) (sym c.is_less.ensures ∙ c.if-is_less.true)

pub returns-else-is_less : goal.returns-else-is_less
returns-else-is_less c =
    let d = c in
    let b = d in
    let x = steps b.args.r.step b.args.place b.requires.0.good.step b.requires.1 d.times-on.result d.times-on.ensures in
    let m = has_ticks d.plus-t.result _ d.plus-t.ensures in
    reached_says b.args.r b.args.place d.plus-t.result false b.requires.0 (omega (arith, x.ticks, m.ticks)) (sym c.is_less.ensures ∙ c.if-is_less.false)
