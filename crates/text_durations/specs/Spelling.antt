-- Document 01, "Writing text", of durations: "dayTimeDuration is normalised to days, hours, minutes, seconds with zero parts
-- dropped; zero is PT0S. yearMonthDuration likewise; zero is P0M."
use Rattle.std.specs.Prelude.{Bool, true, false, List, [], ◌∷◌, ◌++◌, ℕ, ◌+◌, ◌/◌, ◌%◌, eqb}
use Rattle.basis.specs.Choice.{pick}
use Rattle.value.specs.Bounds.{second_ticks}
use Rattle.value.specs.Clocks.{ticks_in}
use Rattle.value.specs.declared.DayTime.{DayTime}
use Rattle.value.specs.declared.YearMonth.{YearMonth}
use Rattle.value.specs.Kinds.{kind_of}
use Rattle.value.specs.declared.Value.{Value}
use Rattle.value.specs.declared.Value.TheVariants as VV
use Rattle.numerals.specs.Writing.{decimal, fraction_text}
use Rattle.text_durations.specs.declared.Sums.{Sums}
use Rattle.text_durations.specs.declared.Amount.{Amount}
use Rattle.text_forms.specs.Forms.{Form, weight, counts_months, duration_form, seconds, minus_sign, start_mark, time_mark}
use Rattle.text_durations.specs.Walks.{is_nothing, no_sums}

-- seconds alone have a fraction
abbrev pub fraction_in : ℕ → ℕ → ℕ
fraction_in c ticks = pick (eqb c seconds) ticks 0

-- n of the component c; zero parts are dropped
unfoldable pub shown : ℕ → ℕ → ℕ → List ℕ
shown c n ticks = pick (eqb (n + fraction_in c ticks) 0) [] (decimal n ++ (fraction_text (fraction_in c ticks) ++ c ∷ []))

-- the sum of months, or of seconds
abbrev pub one_sum : Bool → Sums → ℕ
one_sum months a = pick months a.months a.seconds

-- one of the sums less all the w in it
abbrev pub remainder_of : Bool → ℕ → Sums → Sums
remainder_of months w a = record { months = pick months (a.months % w) a.months; seconds = pick months a.seconds (a.seconds % w) }

-- how many of the component c there are, and what they leave
abbrev pub share_of : Bool → ℕ → Sums → ℕ
share_of time c a = one_sum (counts_months time c) a / weight time c

abbrev pub rest_of : Bool → ℕ → Sums → Sums
rest_of time c a = remainder_of (counts_months time c) (weight time c) a

-- the sums by components, the greater first, each of what those before it left
unfoldable pub shown_all : Bool → List ℕ → Sums → ℕ → List ℕ
shown_all time [] a ticks = []
shown_all time (c ∷ cs) a ticks = shown c (share_of time c a) ticks ++ shown_all time cs (rest_of time c a) ticks

unfoldable pub left : Bool → List ℕ → Sums → Sums
left time [] a = a
left time (c ∷ cs) a = left time cs (rest_of time c a)

-- T, where something is left for after it
abbrev pub after_mark : List ℕ → Sums → ℕ → List ℕ
after_mark after a ticks = pick (is_nothing a ticks) [] (time_mark ∷ shown_all true after a ticks)

unfoldable pub body : List ℕ → List ℕ → Sums → ℕ → List ℕ
body before after a ticks = start_mark ∷ (shown_all false before a ticks ++ after_mark after (left false before a) ticks)

abbrev pub spelt : Bool → List ℕ → List ℕ
spelt negative w = pick negative (minus_sign ∷ w) w

unfoldable pub duration_text : Form → Amount → List ℕ
duration_text f a =
    pick (is_nothing a.sums a.ticks) f.nothing (spelt a.negative (body f.before f.after a.sums a.ticks))

-- the two duration records as amounts; a date, time or dateTime is none
abbrev pub day_time_amount : DayTime → Amount
day_time_amount d =
    record { negative = d.negative; sums = record { months = 0; seconds = ticks_in d / second_ticks }; ticks = ticks_in d % second_ticks }

abbrev pub year_month_amount : YearMonth → Amount
year_month_amount d = record { negative = d.negative; sums = record { months = d.months; seconds = 0 }; ticks = 0 }

abbrev pub amount_of : Value → Amount
amount_of (VV.Moment k d) = record { negative = false; sums = no_sums; ticks = 0 }
amount_of (VV.DayTime t) = day_time_amount t
amount_of (VV.YearMonth m) = year_month_amount m

-- the text of a duration, by its kind's form
abbrev pub duration_text_of : Value → List ℕ
duration_text_of v = duration_text (duration_form (kind_of v)) (amount_of v)
