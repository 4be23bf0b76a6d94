use Rattle.value.proofs.Spans.{span_ticks}
use Rattle.value_instants.proofs.Instants.{offset_good}
use Rattle.value.proofs.Good.{good}
use Rattle.value_instants.proofs.Within.{timed}
use Rattle.value.specs.declared.Span.{Span}
use Rattle.value_instants.specs.Ticks.{local_of, instant_of, instant_at, offset_in}
use Rattle.value.specs.Carried.{span_of, ticks_of}
use Rattle.value.specs.Values.{ok_offset}
use Rattle.value.specs.Bounds.{second_ticks}
use native.Mathlib.Omega.{arith}
use Prim.Native.Nat.{ℕ, ◌/◌, ◌%◌}
use mathlib.Core.Path.{◌≡◌, ap, ◌∙◌}
use Rattle.value_instants.proofs.ticks.instant.Goals as goal

pub instant_at-requires : goal.instant_at-requires
instant_at-requires c =
    let t = timed _ c.requires.0 in
    let es : c.local-t.result.seconds ≡ local_of c.args.d / second_ticks = ap (λ (x : Span). x.seconds) c.local-t.ensures in
    let ep : c.local-t.result.part ≡ local_of c.args.d % second_ticks = ap (λ (x : Span). x.part) c.local-t.ensures in
    (omega arith, omega arith, omega arith, ap ok_offset c.offset_in-o.ensures ∙ offset_good _ _ c.requires.1 (good _ c.requires.0).zone)

pub returns : goal.returns
unfolding instant_of
returns c =
    c.instant_at.ensures
    ∙ (λ i. span_of (instant_at (ticks_of (c.local-t.ensures i)) (c.offset_in-o.ensures i)))
    ∙ ap (λ (t : ℕ). span_of (instant_at t (offset_in c.args.given c.args.d.zone))) (span_ticks (local_of c.args.d))
