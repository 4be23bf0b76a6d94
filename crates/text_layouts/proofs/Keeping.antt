-- What a layout keeps of a record: its parts put over those of a template, one letter after the other. Reading a written
-- text finds exactly these.
use Rattle.std.specs.Prelude.{None, Option, Some}
use mathlib.Core.Path.{◌≡◌}
use mathlib.Core.Bool.{Bool, true, false}
use mathlib.Core.List.{List, [], ◌∷◌}
use Prim.Native.Nat.{ℕ, ◌+◌, ◌-◌, ◌/◌, ◌%◌, ◌≤◌, ◌<◌}
use Prim.Native.Char.{code}
use native.Mathlib.Omega.{arith}
use lib.Dec.{eqb}
use lib.ListN.{length}
use Rattle.basis.specs.Choice.{pick, both}
use Rattle.calendar.specs.Calendar.{leap_row}
use Rattle.calendar.proofs.Months.{month_le}
use Rattle.value.specs.Bounds.{max_year, second_ticks, day_ticks}
use Rattle.value.specs.Clocks.{clock_of, at_clock}
use Rattle.value.specs.Values.{ok_date_time, ok_zone}
use Rattle.value.specs.declared.Offset.TheVariants.{East, West}
use Rattle.value.specs.declared.DateTime.{DateTime}
use Rattle.value.proofs.Good.{Good, good}
use Rattle.value.proofs.ClockLaws.{clock_to}
use Rattle.numerals.specs.Reading.{is_digit}
use Rattle.text_scan.specs.Scanning.{Scan, is_pair, with_pair, reached, with_year, with_fraction, with_zone_part, clock_fields}
use Rattle.text_checks.specs.Reading.{clock_ticks, zone_is, day_found}
use Rattle.text_layouts.specs.Writing.{pair_of, part_text}
use Rattle.value.specs.declared.Offset.{Offset}

abbrev pub zone_kept : Option Offset → Scan → ℕ → Scan
zone_kept None t i = t
zone_kept (Some (East n)) t i = pick (eqb n 0) (with_zone_part t (record { sign = code "Z"; hours = 0; minutes = 0 }) i) (with_zone_part t (record { sign = code "+"; hours = n / 60; minutes = n % 60 }) i)
zone_kept (Some (West n)) t i = with_zone_part t (record { sign = code "-"; hours = n / 60; minutes = n % 60 }) i

-- one part of d, put over what t has; i is the offset after it
abbrev pub kept_to : ℕ → DateTime → Scan → ℕ → Scan
kept_to p d t i =
    pick (eqb p (code "Y")) (with_year t false (record { value = d.year; at = i; good = true }))
    (pick (eqb p (code "f")) (pick (eqb (clock_of d % second_ticks) 0) t (with_fraction t (record { ticks = clock_of d % second_ticks; long = false; end = i })))
    (pick (eqb p (code "z")) (zone_kept d.zone t i)
    (pick (is_pair p) (with_pair p t (record { value = pair_of p d; at = i; good = true })) (reached t i true))))

unfoldable pub part_kept : ℕ → DateTime → Scan → Scan
part_kept p d t = kept_to p d t (t.at + length (part_text p d))

unfoldable pub all_kept : List ℕ → DateTime → Scan → Scan
all_kept [] d t = t
all_kept (p ∷ ps) d t = all_kept ps d (part_kept p d t)

-- the record of the parts that were found
abbrev pub record_of : Scan → DateTime
record_of t = at_clock (day_found t.date) (clock_ticks t.clock) (zone_is t.zone)

-- the clock that shows a time of day has its ticks
pub ticks_shown : (u : ℕ) → u < day_ticks → clock_ticks (clock_fields u) ≡ u
unfolding clock_ticks
ticks_shown u h = omega arith

-- A layout whose texts can be told apart: after a year or a fraction comes no digit and no point, after a zone nothing.
unfoldable pub quiet_head : List ℕ → Bool
quiet_head [] = true
quiet_head (q ∷ qs) =
    pick (eqb q (code "z")) true (pick (eqb q (code "Y")) false (pick (eqb q (code "f")) false (pick (is_pair q) false (pick (eqb q (code ".")) false (pick (is_digit q) false true)))))

unfoldable pub is_nil : List ℕ → Bool
is_nil [] = true
is_nil (q ∷ qs) = false

unfoldable pub follows : ℕ → List ℕ → Bool
follows p ps = pick (eqb p (code "z")) (is_nil ps) (pick (eqb p (code "Y")) (quiet_head ps) (pick (eqb p (code "f")) (quiet_head ps) true))

unfoldable pub sane : List ℕ → Bool
sane [] = true
sane (p ∷ ps) = both (follows p ps) (sane ps)

-- what a record within the bounds has: fields of few digits
pub record Small (d : DateTime) : Type 0 where
  pub year_from : 1 ≤ d.year
  pub year : d.year ≤ max_year
  pub month : d.month < 100
  pub day : d.day < 100
  pub clock : clock_of d < day_ticks
  pub zone : ok_zone d.zone ≡ true

pub small : (d : DateTime) → ok_date_time d ≡ true → Small d
small d e =
    let g : Good d = good d e in
    record {
      year_from = g.day.year_from;
      year = g.day.year_to;
      month = omega (arith, g.day.date.month_to);
      day = omega (arith, g.day.date.day_to, month_le (leap_row d.year) (d.month - 1));
      clock = omega (arith, clock_to d g.time);
      zone = g.zone;
    }
