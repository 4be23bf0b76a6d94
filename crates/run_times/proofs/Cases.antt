-- Worked cases, in minutes: how many occurrences there are, and which refusal.
use mathlib.Core.Path.{◌≡◌, refl}
use Prim.Native.Nat.{ℕ, ◌+◌, ◌-◌, ◌*◌, ◌/◌}
use Rattle.basis.specs.Answer.{gives, refuses}
use Rattle.calendar.specs.Calendar.{total, year_days, period_of, date_of}
use Rattle.value.specs.Bounds.{max_year, minute_ticks, day_ticks}
use Rattle.value.specs.Refusals.{beyond_result, bad_step, too_many}
use Rattle.value_instants.specs.Ticks.{past_years}
use Rattle.run_times.specs.Occurrences.{Times, count_of, some_below, some_passes, run_checked}

-- from a minute of UTC to another, so many minutes apart, in a zone of one hour east
abbrev from : ℕ → ℕ → ℕ → Times
from first last step =
    record {
      first = first * minute_ticks;
      last = last * minute_ticks;
      local = (first + 60) * minute_ticks;
      step = step * minute_ticks;
    }

-- every ten minutes from 23:00 to 01:00: both ends count
night_bus_lem : count_of (from 1_380 1_500 10) ≡ 13
unfolding count_of
night_bus_lem = refl

night_bus_good : run_checked (from 1_380 1_500 10) ≡ gives tt
unfolding run_checked count_of some_passes some_below past_years date_of period_of
night_bus_good = refl

-- one minute short of the last
short_of_last : count_of (from 1_380 1_499 10) ≡ 12
unfolding count_of
short_of_last = refl

-- first is last: one
one_instant : count_of (from 1_380 1_380 10) ≡ 1
unfolding count_of
one_instant = refl

-- counted by instants: in local time first would be past last
by_instants : count_of (from 100 105 10) ≡ 1
unfolding count_of
by_instants = refl

-- last before first is no refusal, and 17 with a step of zero
empty_run : run_checked (from 100 99 10) ≡ gives tt
unfolding run_checked count_of some_passes some_below
empty_run = refl

empty_without_step : run_checked (from 100 99 0) ≡ refuses bad_step
unfolding run_checked
empty_without_step = refl

-- 1,440 are good, one more is 18
most : run_checked (from 100 1_539 1) ≡ gives tt
unfolding run_checked count_of some_passes some_below past_years date_of period_of
most = refl

one_more : run_checked (from 100 1_540 1) ≡ refuses too_many
unfolding run_checked count_of
one_more = refl

-- the first minute after the years, in local time
abbrev years_end : ℕ
years_end = total year_days (max_year + 1) * (day_ticks / minute_ticks)

-- 18 comes before 4
too_many_and_beyond : run_checked (from 100 years_end 1) ≡ refuses too_many
unfolding run_checked count_of total
too_many_and_beyond = refl

-- at ten to midnight of the last day, and at midnight: local time decides, in UTC it is an hour earlier
beyond : run_checked (from (years_end - 70) (years_end - 60) 10) ≡ refuses beyond_result
unfolding run_checked count_of some_passes some_below past_years date_of period_of total
beyond = refl

-- last lies beyond, no occurrence does
last_beyond : run_checked (from (years_end - 75) (years_end - 56) 10) ≡ gives tt
unfolding run_checked count_of some_passes some_below past_years date_of period_of total
last_beyond = refl
