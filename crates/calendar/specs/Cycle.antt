-- For editors: the cycle of 400 years. Document 02, h: "A new editor cannot see the 400-year cycle in it; write it with
-- that cycle's divisions." Calendar.antt goes year by year, and the contracts cite it. This page has the divisions as the
-- code makes them, and the theorems that they come to the same; no promise rests on it.
use Rattle.std.specs.Prelude.{◌≡◌, ℕ, ◌+◌, ◌-◌, ◌*◌, ◌/◌, ◌%◌, ◌≤◌, ◌<◌, ltb}
use Rattle.basis.specs.Choice.{pick}
use Rattle.calendar.specs.Calendar.{leap_row, year_days, total, date_of}

-- the years and the days of a cycle
abbrev pub cycle_years : ℕ
cycle_years = 400

abbrev pub cycle_days : ℕ
cycle_days = 146097

-- any 400 years in a row have 146,097 days; proved as `any_cycle`
abbrev pub AnyCycle : Type 0
AnyCycle = (y : ℕ) → total (λ (k : ℕ). year_days (y + k)) cycle_years ≡ cycle_days

-- ---- the days before a year

abbrev pub ordinary_year_days : ℕ
ordinary_year_days = 365

-- the leap days before year y: one for each multiple of 4, none after all for one of 100, one again for one of 400. A
-- division that is rounded up counts the multiples below y, 0 among them.
abbrev pub leap_days : ℕ → ℕ
leap_days y = (y + 3) / 4 - (y + 99) / 100 + (y + 399) / 400

-- that is the leap rule, year by year; proved as `leap_days_lem`
abbrev pub LeapDays : Type 0
LeapDays = (y : ℕ) → leap_days y ≡ total leap_row y

-- the days of the whole cycles before a year, and of the years before it in its own cycle
abbrev pub before_by_cycle : ℕ → ℕ
before_by_cycle y = y / cycle_years * cycle_days + ordinary_year_days * (y % cycle_years) + leap_days (y % cycle_years)

-- they are the sum over the years; proved as `sum_by_cycle`
abbrev pub SumByCycle : Type 0
SumByCycle = (y : ℕ) → before_by_cycle y ≡ total year_days y

-- ---- the year of a day number

abbrev pub leap_year_days : ℕ
leap_year_days = 366

-- the year of day n if each year of its cycle had 366 days
abbrev pub early_year : ℕ → ℕ
early_year n = n / cycle_days * cycle_years + n % cycle_days / leap_year_days

-- it is the right year or the one before it: day n is not before it, nor past the year after it; proved as `early_year_lem`
abbrev pub EarlyYear : Type 0
EarlyYear = (n : ℕ) → (total year_days (early_year n) ≤ n) × (n < total year_days (early_year n + 1 + 1))

-- the year found: that one, or the next if the day is past its end
abbrev pub year_by_cycle : ℕ → ℕ
year_by_cycle n = pick (ltb (n - before_by_cycle (early_year n)) (year_days (early_year n))) (early_year n) (early_year n + 1)

-- the days of year y hold day n
pub record HoldsDay (y n : ℕ) : Type 0 where
  pub starts : total year_days y ≤ n
  pub ends : n < total year_days (y + 1)

-- the days of the year found hold the number; proved as `year_by_cycle_lem`
abbrev pub YearByCycle : Type 0
YearByCycle = (n : ℕ) → HoldsDay (year_by_cycle n) n

-- those of no other year do; proved as `one_year`
abbrev pub OneYear : Type 0
OneYear = (y z n : ℕ) → HoldsDay y n → HoldsDay z n → y ≡ z

-- it is the year that the walk of Calendar.antt comes to; proved as `walk_by_cycle`
abbrev pub WalkByCycle : Type 0
WalkByCycle = (n : ℕ) → (date_of n).year ≡ year_by_cycle n
