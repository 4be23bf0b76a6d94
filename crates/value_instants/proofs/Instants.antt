-- The instant of a local time at an offset: east of UTC it is that much earlier, west of it that much later, and never
-- below zero. So the offset and the instant give the local time back.
use Rattle.std.specs.Prelude.{None, Option, Some}
use mathlib.Core.Path.{◌≡◌, refl, ap}
use mathlib.Core.Bool.{true}
use Prim.Native.Nat.{ℕ, ◌+◌, ◌*◌, ◌≤◌, ◌<◌}
use native.Mathlib.Omega.{arith}
use Rattle.value.specs.Bounds.{minute_ticks, day_ticks}
use Rattle.value.specs.Values.{ok_offset, ok_zone, ok_date_time}
use Rattle.value_instants.specs.Ticks.{local_of, utc, instant_at, instant_of, offset_in, east, west}
use Rattle.value.specs.declared.Offset.{Offset}
use Rattle.value.specs.declared.DateTime.{DateTime}
use Rattle.value.proofs.Good.{good}
use Rattle.value_instants.proofs.Within.{timed, east_to, west_to}
use Rattle.value_instants.proofs.Locals.{same_local}

-- UTC is within the bounds
pub utc_good : ok_offset utc ≡ true
unfolding ok_offset
utc_good = refl

-- no offset reaches a day
pub record Near (t i : ℕ) (o : Offset) : Type 0 where
  pub balance : i + east o * minute_ticks ≡ t + west o * minute_ticks
  pub above : t < i + day_ticks
  pub under : i < t + day_ticks

pub instant_near : (t : ℕ) (o : Offset) → ok_offset o ≡ true → day_ticks ≤ t → Near t (instant_at t o) o
instant_near t o g h =
    let e = east_to o g in
    let w = west_to o g in
    record { balance = omega arith; above = omega arith; under = omega arith }

-- the offset that a record counts in is within the bounds
pub offset_good : (o : Offset) (z : Option Offset) → ok_offset o ≡ true → ok_zone z ≡ true → ok_offset (offset_in o z) ≡ true
unfolding ok_zone
offset_good o None go gz = go
offset_good o (Some p) go gz = gz

pub record_near : (o : Offset) (d : DateTime) → ok_offset o ≡ true → ok_date_time d ≡ true
    → Near (local_of d) (instant_of o d) (offset_in o d.zone)
unfolding instant_of
record_near o d go gd =
    instant_near (local_of d) (offset_in o d.zone) (offset_good o d.zone go (good d gd).zone) (timed d gd).local_from

-- one zone and one instant are one record
pub same_instant : (o : Offset) (a b : DateTime) → ok_offset o ≡ true → ok_date_time a ≡ true → ok_date_time b ≡ true
    → a.zone ≡ b.zone → instant_of o a ≡ instant_of o b → a ≡ b
same_instant o a b go ga gb z e =
    let na = record_near o a go ga in
    let nb = record_near o b go gb in
    let w : west (offset_in o a.zone) ≡ west (offset_in o b.zone) = ap (λ (x : Option Offset). west (offset_in o x)) z in
    let v : east (offset_in o a.zone) ≡ east (offset_in o b.zone) = ap (λ (x : Option Offset). east (offset_in o x)) z in
    same_local a b ga gb (omega (arith, na.balance, nb.balance)) z
