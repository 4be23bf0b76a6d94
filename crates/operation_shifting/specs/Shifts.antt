-- Document 01, "Operations": a date, time or dateTime plus a duration. A duration is the number p - q; its opposite, for
-- minus, is q - p.
use Rattle.std.specs.Prelude.{ℕ, ◌+◌, ◌-◌, ◌*◌, ◌/◌, ◌%◌, min, leb}
use Rattle.basis.specs.Choice.{pick, both}
use Rattle.basis.specs.Answer.{Answer, gives, refuses}
use Rattle.calendar.specs.Calendar.{month_days, month_count}
use Rattle.value.specs.Bounds.{min_year, max_year, day_ticks}
use Rattle.value.specs.Clocks.{clock_of, at_clock, at_clock_of}
use Rattle.value.specs.Refusals.{beyond_result, wrong_kind}
use Rattle.value.specs.Durations.{plus_half, minus_half, plus_ticks, minus_ticks}
use Rattle.value.specs.Values.{date_in}
use Rattle.value.specs.Rows.{is_dated, is_clocked}
use Rattle.value_instants.specs.Ticks.{local_of}
use Rattle.value.specs.declared.DateTime.{DateTime}
use Rattle.value.specs.declared.DayTime as D
use Rattle.value.specs.declared.YearMonth as Y
use Rattle.value.specs.declared.Kind.{Kind}
use Rattle.value.specs.declared.Value.{Value}
use Rattle.value.specs.declared.Value.TheVariants.{Moment}
use Rattle.operation_quantities.specs.Results.{at_ticks}

-- dateTime ± yearMonthDuration: months move, the day is cut to the new month's last day, time and zone stay.
-- Dates likewise: a kind with year, month and day. Months are counted from January of year 0; before it there is 0,
-- which is beyond the years too.
abbrev pub month_of : DateTime → ℕ
month_of d = d.year * month_count + (d.month - 1)

abbrev pub in_month : DateTime → ℕ → DateTime
in_month d t =
    at_clock_of
    (record {
      year = t / month_count;
      month = t % month_count + 1;
      day = min d.day (month_days (t / month_count) (t % month_count + 1));
    })
    d
    d.zone

unfoldable pub moved_to : Kind → DateTime → ℕ → Answer Value
moved_to k d t =
    pick (both (leb min_year (t / month_count)) (leb (t / month_count) max_year)) (gives (Moment k (in_month d t))) (refuses beyond_result)

unfoldable pub moved : Kind → DateTime → ℕ → ℕ → Answer Value
moved k d p q = pick (is_dated k) (moved_to k d (month_of d + p - q)) (refuses wrong_kind)

-- dateTime ± dayTimeDuration: local arithmetic, zone kept. A date does so from its 00:00:00 and drops the time.
-- A time wraps modulo 24 hours and is never refused. (Before 0000-01-01 there is 0, which is beyond the years too.)
abbrev pub wrapped_clock : ℕ → ℕ → ℕ → ℕ
wrapped_clock u p q = (u + p % day_ticks + (day_ticks - q % day_ticks)) % day_ticks

abbrev pub wrapped : DateTime → ℕ → ℕ → DateTime
wrapped d p q = at_clock (date_in d) (wrapped_clock (clock_of d) p q) d.zone

unfoldable pub shifted : Kind → DateTime → ℕ → ℕ → Answer Value
shifted k d p q =
    pick (is_dated k) (at_ticks k (local_of d + p - q) d.zone) (pick (is_clocked k) (gives (Moment k (wrapped d p q))) (refuses wrong_kind))

-- a date, time or dateTime and a duration
abbrev pub shifted_by : Kind → DateTime → D.DayTime → Answer Value
shifted_by k d t = shifted k d (plus_ticks t) (minus_ticks t)

abbrev pub moved_by : Kind → DateTime → Y.YearMonth → Answer Value
moved_by k d m = moved k d (plus_half m.negative m.months) (minus_half m.negative m.months)
