-- Worked cases, by computation: either side of a leap day, of a century and of the last year of four digits; by the cycle,
-- either side of its end and of a leap year's.
use Rattle.std.specs.Prelude.{None, Some}
use mathlib.Core.Path.{◌≡◌, refl}
use Prim.Native.Nat.{◌-◌}
use Rattle.calendar.specs.Calendar.{leap_row, month_days, total, day_number, period_of, date_of, dated_of}
use Rattle.calendar.specs.Cycle.{before_by_cycle, year_by_cycle}

number_of_2000_03_01 : day_number 2000 3 1 ≡ 730545
unfolding total
number_of_2000_03_01 = refl

date_of_730545 : date_of 730545 ≡ record { year = 2000; month = 3; day = 1 }
unfolding period_of date_of
date_of_730545 = refl

number_of_9999_12_31 : day_number 9999 12 31 ≡ 3652424
unfolding total
number_of_9999_12_31 = refl

date_of_3652424 : date_of 3652424 ≡ record { year = 9999; month = 12; day = 31 }
unfolding period_of date_of
date_of_3652424 = refl

-- the day before 2005-03-01
before_2005_03_01 : date_of (day_number 2005 3 1 - 1) ≡ record { year = 2005; month = 2; day = 28 }
unfolding total period_of date_of
before_2005_03_01 = refl

ordinary_1900 : leap_row 1900 ≡ 0
ordinary_1900 = refl

february_1900 : month_days 1900 2 ≡ 28
february_1900 = refl

february_2000 : month_days 2000 2 ≡ 29
february_2000 = refl

-- year 0 is a leap year: its last day is 365, and with it as the last year the next day is later
last_of_year_0 : dated_of 365 0 ≡ Some (record { year = 0; month = 12; day = 31 })
unfolding period_of date_of dated_of
last_of_year_0 = refl

after_year_0 : dated_of 366 0 ≡ None
unfolding period_of date_of dated_of
after_year_0 = refl

-- 1999-12-31 is the last day of a cycle: five cycles have 730,485 days
before_2000 : before_by_cycle 2000 ≡ 730485
before_2000 = refl

before_2001 : before_by_cycle 2001 ≡ 730851
before_2001 = refl

before_2101 : before_by_cycle 2101 ≡ day_number 2101 1 1
unfolding total
before_2101 = refl

year_of_1999_12_31 : year_by_cycle 730484 ≡ 1999
year_of_1999_12_31 = refl

year_of_2000_01_01 : year_by_cycle 730485 ≡ 2000
year_of_2000_01_01 = refl

year_of_2024_12_31 : year_by_cycle (day_number 2024 12 31) ≡ 2024
unfolding total
year_of_2024_12_31 = refl

year_of_2025_01_01 : year_by_cycle (day_number 2025 1 1) ≡ 2025
unfolding total
year_of_2025_01_01 = refl
