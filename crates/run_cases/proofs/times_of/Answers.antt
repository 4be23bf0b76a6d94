use mathlib.Core.Path.{◌≡◌, ap, ◌∙◌}
use Prim.Native.Nat.{ℕ}
use native.Mathlib.Omega.{arith}
use Rattle.value.specs.Values.{ok_offset}
use Rattle.value.proofs.Good.{good}
use Rattle.value_instants.specs.Ticks.{local_of, instant_at, instant_of, offset_in}
use Rattle.value.specs.Carried.{ticks_of, span_of}
use Rattle.value.proofs.Spans.{span_ticks, has_ticks}
use Rattle.value_instants.proofs.Within.{timed}
use Rattle.value_instants.proofs.Instants.{offset_good}
use Rattle.run_cases.proofs.times_of.Goals as goal

pub instant_at-requires : goal.instant_at-requires
instant_at-requires c =
    let b = c in
    let h = has_ticks c.local-local.result (local_of b.args.d) c.local-local.ensures in
    let t = timed b.args.d b.requires.0 in (
      h.part,
      omega (arith, h.ticks, h.part, t.local_from),
      omega (arith, h.ticks, t.local_few),
      ap ok_offset c.offset_in-offset.ensures ∙ offset_good _ _ b.requires.1 (good _ b.requires.0).zone,
    )

pub returns : goal.returns
unfolding instant_of
returns c =
    let b = c in
    let l : c.local-local.result ≡ span_of (local_of b.args.d) = c.local-local.ensures in
    let t : c.instant_at.result ≡ span_of (instant_of b.args.zone b.args.d) =
    c.instant_at.ensures
    ∙ (λ i. span_of (instant_at (ticks_of (l i)) (c.offset_in-offset.ensures i)))
    ∙ ap (λ (n : ℕ). span_of (instant_at n (offset_in b.args.zone b.args.d.zone))) (span_ticks (local_of b.args.d)) in
    λ i. record { local = l i; instant = t i; zone = b.args.d.zone }
