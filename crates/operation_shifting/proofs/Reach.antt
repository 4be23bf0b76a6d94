-- How far local times and instants reach.
use mathlib.Core.Path.{◌≡◌}
use mathlib.Core.Bool.{true}
use Prim.Native.Nat.{◌*◌, ◌≤◌}
use native.Mathlib.Omega.{arith}
use Rattle.calendar.specs.Calendar.{total, year_days, day_of}
use Rattle.calendar.proofs.Years.{years_grow, year_starts}
use Rattle.value.specs.Bounds.{min_year, max_day_time, day_ticks}
use Rattle.value.specs.Values.{ok_offset, ok_date_time}
use Rattle.value.specs.Values.{date_in}
use Rattle.value_instants.specs.Ticks.{local_of, instant_of}
use Rattle.value.specs.declared.Offset.{Offset}
use Rattle.value.specs.declared.DateTime.{DateTime}
use Rattle.value.proofs.Good.{good}
use Rattle.value_instants.proofs.Within.{timed}
use Rattle.value_instants.proofs.Instants.{record_near}

-- the first year comes after a whole year
two_days : 2 ≤ total year_days min_year
unfolding total
two_days = omega arith

pub local_from : (d : DateTime) → ok_date_time d ≡ true → 2 * day_ticks ≤ local_of d
unfolding local_of
local_from d e =
    let s : total year_days d.year ≤ day_of (date_in d) = year_starts (date_in d) in
    let f : total year_days min_year ≤ total year_days d.year = years_grow min_year d.year (good d e).day.year_from in
    omega (arith, two_days)

pub instant_to : (o : Offset) (d : DateTime) → ok_offset o ≡ true → ok_date_time d ≡ true → instant_of o d ≤ max_day_time
instant_to o d go gd =
    let n = record_near o d go gd in
    let t = timed d gd in
    omega (arith, n.under, t.local_few)
