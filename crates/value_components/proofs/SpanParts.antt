-- The fields of a number of ticks, from its whole seconds and its part of a second.
use mathlib.Core.Path.{◌≡◌}
use mathlib.Core.Bool.{true}
use Prim.Native.Nat.{ℕ, ◌+◌, ◌*◌, ◌/◌, ◌%◌, ◌≤◌, ◌<◌}
use native.Mathlib.Omega.{arith}
use Rattle.value.specs.Bounds.{max_day_time, second_ticks, minute_seconds, hour_minutes, day_hours, minute_ticks, hour_ticks, day_ticks}
use Rattle.value.specs.Carried.{ticks_of, span_of, max_clock}
use Rattle.value.specs.Clocks.{clock_of}
use Rattle.value.specs.Values.{ok_time_part}
use Rattle.value.specs.declared.DateTime.{DateTime}
use Rattle.value.specs.declared.Span.{Span}
use Rattle.value.proofs.ClockLaws.{clock_to}
use Rattle.value.proofs.Spans.{has_ticks}
use Rattle.value_components.specs.Components.{clock_in}

module _ (s p : ℕ) (small : p < second_ticks) where
  pub days_in : s / 86400 ≡ (s * second_ticks + p) / day_ticks
  days_in = omega arith

  pub hours_in : s / 3600 ≡ (s * second_ticks + p) / hour_ticks
  hours_in = omega arith

  pub hours_left : s / 3600 % day_hours ≡ (s * second_ticks + p) / hour_ticks % day_hours
  hours_left = omega arith

  pub minutes_left : s / 60 % hour_minutes ≡ (s * second_ticks + p) / minute_ticks % hour_minutes
  minutes_left = omega arith

  pub seconds_left : s % 60 ≡ (s * second_ticks + p) / second_ticks % minute_seconds
  seconds_left = omega arith

  pub part_left : p ≡ (s * second_ticks + p) % second_ticks
  part_left = omega arith

  pub clock_by : record { hours = s / 3600; minutes = s / 60 % hour_minutes; seconds = s % 60; part = p } ≡ clock_in (s * second_ticks + p)
  clock_by = λ i. record { hours = hours_in i; minutes = minutes_left i; seconds = seconds_left i; part = part_left i }

-- what the span of a number of ticks has, and of a number within its bound
pub ticks_are : (s : Span) (t : ℕ) → s ≡ span_of t → ticks_of s ≡ t
ticks_are s t e = (has_ticks s t e).ticks

pub size_within : (s : Span) (t : ℕ) → t ≤ max_day_time → s ≡ span_of t → (s.part < second_ticks) × (ticks_of s ≤ max_day_time)
size_within s t h e = let k = has_ticks s t e in (k.part, omega (arith, k.ticks))

pub clock_within : (s : Span) (d : DateTime) → ok_time_part d ≡ true → s ≡ span_of (clock_of d) → (s.part < second_ticks) × (ticks_of s ≤ max_clock)
clock_within s d g e = let k = has_ticks s (clock_of d) e in let h = clock_to d g in (k.part, omega (arith, k.ticks))
