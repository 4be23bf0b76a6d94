-- Two values that are to be written alike: the same zone, or the same absence of one, and the same instant; of durations the
-- same number.
use Rattle.std.specs.Prelude.{Bool, false, ◌≡◌, ℕ, ◌+◌}
use Rattle.value.specs.Clocks.{ticks_in}
use Rattle.value.specs.Durations.{plus_half, minus_half}
use Rattle.value.specs.Rows.{template_of}
use Rattle.value_instants.specs.Ticks.{utc, instant_of}
use Rattle.value.specs.declared.DateTime.{DateTime}
use Rattle.value.specs.declared.Kind.TheVariants as KV
use Rattle.value.specs.declared.Value.{Value}
use Rattle.value.specs.declared.Value.TheVariants as VV

-- the record of a date, a time or a dateTime; for durations, which have none, their kind's template
abbrev pub moment_of : Value → DateTime
moment_of (VV.Moment k d) = d
moment_of (VV.DayTime t) = template_of KV.DayTimeDuration
moment_of (VV.YearMonth m) = template_of KV.YearMonthDuration

-- the sign and the magnitude of a duration's number; the other kinds have none
abbrev pub sign_of : Value → Bool
sign_of (VV.Moment k d) = false
sign_of (VV.DayTime t) = t.negative
sign_of (VV.YearMonth m) = m.negative

abbrev pub magnitude_of : Value → ℕ
magnitude_of (VV.Moment k d) = 0
magnitude_of (VV.DayTime t) = ticks_in t
magnitude_of (VV.YearMonth m) = m.months

pub record Alike (v w : Value) : Type 0 where
  pub zone : (moment_of v).zone ≡ (moment_of w).zone
  pub instant : instant_of utc (moment_of v) ≡ instant_of utc (moment_of w)
  pub number : plus_half (sign_of v) (magnitude_of v) + minus_half (sign_of w) (magnitude_of w) ≡ plus_half (sign_of w) (magnitude_of w) + minus_half (sign_of v) (magnitude_of v)
