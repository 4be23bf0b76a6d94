-- The record at a local time has that local time, and the local time of a record gives the record back.
use Rattle.std.specs.Prelude.{None, Option, Some}
use mathlib.Core.Path.{◌≡◌, refl, ap, sym, ◌∙◌}
use mathlib.Core.Bool.{Bool, true, false}
use Prim.Native.Nat.{ℕ, ◌+◌, ◌*◌, ◌/◌, ◌%◌, ◌≤◌}
use native.Mathlib.Omega.{arith}
use borrow.Author.Tests.{leb-true, le-leb}
use Rattle.basis.specs.Choice.{pick}
use Rattle.basis.proofs.Tests.{both_left, both_right, both_true}
use Rattle.calendar.specs.Calendar.{day_of, date_of}
use Rattle.calendar.proofs.Dates.{date_day, date_good, day_date}
use Rattle.value.specs.Bounds.{day_ticks}
use Rattle.value.specs.Carried.{max_clock}
use Rattle.value.specs.Clocks.{clock_of, at_clock}
use Rattle.value.specs.Values.{ok_zone, ok_date_time, date_in}
use Rattle.value_instants.specs.Ticks.{local_of, at_local, in_years, placed_at}
use Rattle.value.specs.declared.DateTime.{DateTime}
use Rattle.value.proofs.ClockLaws.{clock_at, at_its_clock, clock_to, time_part_at}
use Rattle.value.proofs.Good.{good, record_ok}
use Rattle.value.specs.declared.Offset.{Offset}

pub local_of_placed : (t : ℕ) (z : Option Offset) → local_of (at_local t z) ≡ t
unfolding local_of
local_of_placed t z = omega (arith, day_date (t / day_ticks), clock_at (date_of (t / day_ticks)) (t % day_ticks) z)

pub placed_ok : (t : ℕ) (z : Option Offset) → in_years t ≡ true → ok_zone z ≡ true → ok_date_time (at_local t z) ≡ true
unfolding in_years
placed_ok t z e h =
    record_ok (at_local t z)
    (record {
      day =
          record {
            date = date_good (t / day_ticks);
            year_from = leb-true _ _ (both_left _ _ e);
            year_to = leb-true _ _ (both_right _ _ e);
          };
      time = time_part_at (date_of (t / day_ticks)) (t % day_ticks) z (omega arith);
      zone = h;
    })

-- a local time within the years has its record
pub placed_there : (t : ℕ) (z : Option Offset) → in_years t ≡ true → placed_at t z ≡ Some (at_local t z)
unfolding placed_at
placed_there t z e = λ i. pick (e i) (Some (at_local t z)) None

-- and a record that a local time has is within the bounds, where its zone is
pub placed_good : (t : ℕ) (z : Option Offset) (d : DateTime) → Some d ≡ placed_at t z → ok_zone z ≡ true → ok_date_time d ≡ true
unfolding placed_at
placed_good t z d e h = go (in_years t) refl
  where
    go : (b : Bool) → in_years t ≡ b → ok_date_time d ≡ true
    go true y =
        let q : Some d ≡ Some (at_local t z) = e ∙ placed_there t z y in
        let k : d ≡ at_local t z = cc in
        ap ok_date_time k ∙ placed_ok t z y h
    go false y =
        let q : Some d ≡ None = e ∙ (λ i. pick (y i) (Some (at_local t z)) None) in
        absurd (let n : ◌≡◌ {A = ℕ} 0 1 = cc in omega arith)

-- the day and the time of day of a local time
day_of_local : (n u : ℕ) → u ≤ max_clock → (n * day_ticks + u) / day_ticks ≡ n
day_of_local n u h = omega arith

time_of_local : (n u : ℕ) → u ≤ max_clock → (n * day_ticks + u) % day_ticks ≡ u
time_of_local n u h = omega arith

date_of_local : (d : DateTime) → ok_date_time d ≡ true → date_of (local_of d / day_ticks) ≡ date_in d
unfolding local_of
date_of_local d e =
    let g = good d e in
    ap date_of (day_of_local (day_of (date_in d)) (clock_of d) (clock_to d g.time)) ∙ date_day (date_in d) g.day.date

pub placed_of_local : (d : DateTime) → ok_date_time d ≡ true → at_local (local_of d) d.zone ≡ d
unfolding local_of
placed_of_local d e =
    let g = good d e in
    let b : date_of (local_of d / day_ticks) ≡ date_in d = date_of_local d e in
    let u : local_of d % day_ticks ≡ clock_of d = time_of_local (day_of (date_in d)) (clock_of d) (clock_to d g.time) in
    (λ i. at_clock (b i) (u i) d.zone) ∙ at_its_clock d g.time

pub local_in_years : (d : DateTime) → ok_date_time d ≡ true → in_years (local_of d) ≡ true
unfolding in_years
local_in_years d e =
    let g = good d e in
    let b : date_of (local_of d / day_ticks) ≡ date_in d = date_of_local d e in
    rw b (both_true _ _ (le-leb _ _ g.day.year_from) (le-leb _ _ g.day.year_to))

-- equal local times and zones are one record
pub same_local : (a b : DateTime) → ok_date_time a ≡ true → ok_date_time b ≡ true → local_of a ≡ local_of b → a.zone ≡ b.zone → a ≡ b
same_local a b ga gb e z =
    sym (placed_of_local a ga) ∙ (λ i. at_local (e i) (z i)) ∙ placed_of_local b gb
