use Rattle.value.specs.Bounds.{day_ticks}
use Rattle.value.specs.Clocks.{clock_of}
use Rattle.value.proofs.ClockLaws.{clock_to}
use Rattle.value.specs.declared.Span.{Span}
use Prim.Native.Nat.{ℕ, ◌+◌, ◌*◌}
use mathlib.Core.Path.{ap, ◌∙◌}
use Rattle.value_instants.specs.Ticks.{local_of}
use Rattle.value.specs.Carried.{span_of}
use Rattle.value.proofs.Good.{good, numbered}
use Rattle.value_instants.proofs.TwoParts.{days_and_span}
use native.Mathlib.Omega.{arith}
use Rattle.value_instants.proofs.ticks.local.Goals as goal

pub day_number-n-requires : goal.day_number-n-requires
day_number-n-requires c = (good _ c.requires).day.date

pub clock-t-requires : goal.clock-t-requires
clock-t-requires c = (good _ c.requires).time

pub overflow_mul-result : goal.overflow_mul-result
overflow_mul-result c = let n = numbered _ (good _ c.requires).day in omega arith

pub overflow_add-result : goal.overflow_add-result
overflow_add-result c = let n = numbered _ (good _ c.requires).day in let g = clock_to _ (good _ c.requires).time in omega (arith, ap (λ (x : Span). x.seconds) c.clock-t.ensures)

pub returns : goal.returns
unfolding local_of
returns c =
    days_and_span _ _ _ c.clock-t.ensures
    ∙ ap (λ (n : ℕ). span_of (n * day_ticks + clock_of c.args.d)) c.day_number-n.ensures
