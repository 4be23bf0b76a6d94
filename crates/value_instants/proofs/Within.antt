-- Offsets and local times of records within the bounds, and steps: an offset is at most the bound either way, a local time at least a
-- day, and no value leads further forward than the greatest duration.
use mathlib.Core.Path.{◌≡◌, ap}
use mathlib.Core.Bool.{Bool, true, false}
use Prim.Native.Nat.{◌+◌, ◌*◌, ◌≤◌, ◌<◌}
use native.Mathlib.Omega.{arith}
use borrow.Author.Tests.{leb-true}
use Rattle.basis.specs.Choice.{pick, every}
use Rattle.basis.proofs.Tests.{both_left, both_right}
use Rattle.calendar.specs.Calendar.{total, year_days}
use Rattle.value.specs.Bounds.{max_year, max_zone, max_day_time, day_ticks}
use Rattle.value.specs.Clocks.{ticks_in}
use Rattle.value.specs.Durations.{plus_half, plus_ticks}
use Rattle.value.specs.Kinds.{ok_value}
use Rattle.value.specs.Values.{date_in, ok_offset, ok_date_time}
use Rattle.value_instants.specs.Ticks.{local_of, east, west, forward_of}
use Rattle.value.specs.declared.Offset.{Offset}
use Rattle.value.specs.declared.Offset.TheVariants.{East, West}
use Rattle.value.specs.declared.DateTime.{DateTime}
use Rattle.value.specs.declared.DayTime.{DayTime}
use Rattle.value.specs.declared.Value.{Value}
use Rattle.value.specs.declared.Value.TheVariants as VV
use Rattle.value.proofs.Good.{good, numbered}
use Rattle.value.proofs.ClockLaws.{clock_to, ticks_to}

-- an offset is at most the bound, either way
pub east_to : (o : Offset) → ok_offset o ≡ true → east o ≤ max_zone
unfolding ok_offset every
east_to (East m) e = leb-true _ _ e
east_to (West m) e = omega arith

pub west_to : (o : Offset) → ok_offset o ≡ true → west o ≤ max_zone
unfolding ok_offset every
west_to (East m) e = omega arith
west_to (West m) e = leb-true _ _ (both_left _ _ (both_right _ _ e))

-- the local time of a record: at least a day, and less than the days of the years
pub record Timed (d : DateTime) : Type 0 where
  pub local_from : day_ticks ≤ local_of d
  pub local_to : local_of d < total year_days (max_year + 1) * day_ticks
  pub local_few : local_of d < 366 * (max_year + 1) * day_ticks

pub timed : (d : DateTime) → ok_date_time d ≡ true → Timed d
unfolding local_of
timed d e =
    let g = good d e in
    let n = numbered (date_in d) g.day in
    record {
      local_from = omega (arith, n.days_from);
      local_to = omega (arith, n.days_to, clock_to d g.time);
      local_few = omega (arith, n.days_few, clock_to d g.time);
    }

-- a duration that is not negative is as long as it leads forward
pub plus_forward : (t : DayTime) → t.negative ≡ false → plus_ticks t ≡ ticks_in t
plus_forward t e = ap (λ (b : Bool). plus_half b (ticks_in t)) e

pub forward_to : (v : Value) → ok_value v ≡ true → forward_of v ≤ max_day_time
unfolding ok_value
forward_to (VV.Moment k d) e = omega arith
forward_to (VV.DayTime t) e = go t.negative (ticks_to t e)
  where
    go : (b : Bool) → ticks_in t ≤ max_day_time → pick b 0 (ticks_in t) ≤ max_day_time
    go true h = omega arith
    go false h = h
forward_to (VV.YearMonth m) e = omega arith
