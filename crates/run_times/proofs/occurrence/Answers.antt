use Prim.Native.Nat.{◌+◌}
use mathlib.Core.Path.{◌∙◌}
use native.Mathlib.Omega.{arith}
use Rattle.value.specs.Carried.{ticks_of, span_of}
use Rattle.run_times.proofs.OnSpans.{steps_fit, steps}
use Rattle.run_times.proofs.occurrence.Goals as goal

pub times-on-requires : goal.times-on-requires
times-on-requires c =
    let g = c.requires.0.step in
    (g.part, steps_fit c.args.r.step c.args.place g c.requires.1)

pub plus-requires : goal.plus-requires
plus-requires c =
    let b = c in
    let g = b.requires.0 in
    let x = steps b.args.r.step b.args.place g.step b.requires.1 c.times-on.result c.times-on.ensures in
    (g.local.part, x.part, omega (arith, g.local.ticks, x.few_ticks))

pub returns : goal.returns
returns c =
    let b = c in
    let x = steps b.args.r.step b.args.place b.requires.0.step b.requires.1 c.times-on.result c.times-on.ensures in
    c.plus.ensures ∙ (λ i. span_of (ticks_of b.args.r.local + x.ticks i))
