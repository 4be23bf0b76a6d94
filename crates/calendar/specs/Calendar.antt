-- Document 01, "Values and their bounds": the proleptic Gregorian calendar, its month lengths as two rows of twelve.
-- Days are counted from 0000-01-01, which is day 0. No bound on years stands here.
use Rattle.std.specs.Prelude.{Bool, true, false, List, [], ◌∷◌, ℕ, zero, suc, ◌+◌, ◌-◌, ◌%◌, ◌≤◌, eqb, leb, ltb, get_or, None, Option, Some}
use Rattle.basis.specs.Choice.{pick}
use Rattle.calendar.specs.declared.Date.{Date}

-- 1 in a leap year, 0 in an ordinary one
abbrev pub leap_row : ℕ → ℕ
leap_row y = pick (eqb (y % 400) 0) 1 (pick (eqb (y % 100) 0) 0 (pick (eqb (y % 4) 0) 1 0))

-- the month lengths, ordinary and leap
abbrev pub months : List (List ℕ)
months =
    (31 ∷ 28 ∷ 31 ∷ 30 ∷ 31 ∷ 30 ∷ 31 ∷ 31 ∷ 30 ∷ 31 ∷ 30 ∷ 31 ∷ [])
    ∷ (31 ∷ 29 ∷ 31 ∷ 30 ∷ 31 ∷ 30 ∷ 31 ∷ 31 ∷ 30 ∷ 31 ∷ 30 ∷ 31 ∷ [])
    ∷ []

-- the days of month k + 1 in a year of row r
abbrev pub month_row : ℕ → ℕ → ℕ
month_row r k = get_or (get_or months r []) k 0

-- the days of month m, from 1 on, of year y
abbrev pub month_days : ℕ → ℕ → ℕ
month_days y m = month_row (leap_row y) (m - 1)

abbrev pub year_days : ℕ → ℕ
year_days y = 365 + leap_row y

abbrev pub month_count : ℕ
month_count = 12

-- a date of the calendar, of any year
pub record GoodDate (d : Date) : Type 0 where
  pub month_from : 1 ≤ d.month
  pub month_to : d.month ≤ month_count
  pub day_from : 1 ≤ d.day
  pub day_to : d.day ≤ month_days d.year d.month

-- f 0 + f 1 + .. + f (n - 1)
unfoldable pub total : (ℕ → ℕ) → ℕ → ℕ
total f zero = 0
total f (suc n) = total f n + f n

-- the days since 0000-01-01: those of the years before, of the months before, and of the days before
abbrev pub day_number : ℕ → ℕ → ℕ → ℕ
day_number y m d = total year_days y + total (month_row (leap_row y)) (m - 1) + (d - 1)

abbrev pub day_of : Date → ℕ
day_of d = day_number d.year d.month d.day

-- Periods of f i, f (i + 1), .. days: the number of the period in which day n lies, and how many of its days come before
-- n. At most `fuel` periods are passed.
pub record Period : Type 0 where
  pub number : ℕ
  pub left : ℕ

unfoldable pub period_of : (ℕ → ℕ) → ℕ → ℕ → ℕ → Period
period_of f zero i n = record { number = i; left = n }
period_of f (suc fuel) i n = elim (ltb n (f i)) [ true ↦ record { number = i; left = n } | false ↦ period_of f fuel (suc i) (n - f i) ]

-- the date of a day that is numbered within its year
abbrev pub date_within : Period → Date
date_within p =
    let q : Period = period_of (month_row (leap_row p.number)) month_count 0 p.left in
    record { year = p.number; month = q.number + 1; day = q.left + 1 }

-- the date of a day number; every year has a day, so that n + 1 years are enough
unfoldable pub date_of : ℕ → Date
date_of n = date_within (period_of year_days (suc n) 0 n)

-- the date of a day number, or that its year is later than a last one
unfoldable pub dated_of : ℕ → ℕ → Option Date
dated_of n last = pick (leb (date_of n).year last) (Some (date_of n)) None

-- the order of dates: by year, then by month, then by day
unfoldable pub before : Date → Date → Bool
before d e =
    pick
    (eqb d.year e.year)
    (pick (eqb d.month e.month) (ltb d.day e.day) (ltb d.month e.month))
    (ltb d.year e.year)
