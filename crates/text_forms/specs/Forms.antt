-- Document 01, "Reading text" and "Writing text": the components of a duration's text. "dayTimeDuration has D, H, M, S;
-- yearMonthDuration Y, M." A duration's kind is a row too: its form.
use Rattle.std.specs.Prelude.{Bool, true, false, List, [], ℕ, ◌/◌, eqb}
use Prim.Native.Char.{code}
use Rattle.basis.specs.Choice.{pick, both}
use Rattle.basis.specs.Letters.{bytes}
use Rattle.calendar.specs.Calendar.{month_count}
use Rattle.value.specs.Bounds.{second_ticks, minute_ticks, hour_ticks, day_ticks}
use Rattle.value.specs.Rows.{has}
use Rattle.value.specs.declared.Kind.{Kind}
use Rattle.value.specs.declared.Kind.TheVariants as KV

-- The bytes that stand in a duration's text: Y, D, H, M, S of the components (M is minutes after T, and months before it,
-- which count for themselves), and the punctuation.
abbrev pub years : ℕ
years = code "Y"

abbrev pub days : ℕ
days = code "D"

abbrev pub hours : ℕ
hours = code "H"

abbrev pub minutes : ℕ
minutes = code "M"

abbrev pub seconds : ℕ
seconds = code "S"

abbrev pub minus_sign : ℕ
minus_sign = code "-"

abbrev pub point : ℕ
point = code "."

abbrev pub start_mark : ℕ
start_mark = code "P"

abbrev pub time_mark : ℕ
time_mark = code "T"

-- what one of a component counts: of years and months in months, of the others in seconds
unfoldable pub weight : Bool → ℕ → ℕ
weight time c =
    pick (eqb c years) month_count
    (pick (eqb c days) (day_ticks / second_ticks)
    (pick (eqb c hours) (hour_ticks / second_ticks) (pick (both time (eqb c minutes)) (minute_ticks / second_ticks) 1)))

-- whether a component counts months: Y, and M before T. The others count seconds.
abbrev pub counts_months : Bool → ℕ → Bool
counts_months time c = pick (eqb c years) true (pick time false (eqb c minutes))

-- The form of a kind's text: its components before T and after it, in order; and the text of zero.
pub record Form : Type 0 where
  pub before : List ℕ
  pub after : List ℕ
  pub nothing : List ℕ

abbrev pub day_time : Form
day_time = record { before = bytes "D"; after = bytes "HMS"; nothing = bytes "PT0S" }

abbrev pub year_month : Form
year_month = record { before = bytes "YM"; after = []; nothing = bytes "P0M" }

-- dates, times and dateTimes have no component: no text has this form, and none is written in it
abbrev pub no_form : Form
no_form = record { before = []; after = []; nothing = [] }

abbrev pub duration_form : Kind → Form
duration_form KV.Date = no_form
duration_form KV.Time = no_form
duration_form KV.DateTime = no_form
duration_form KV.DayTimeDuration = day_time
duration_form KV.YearMonthDuration = year_month

-- whether a form counts months: it has M before T
abbrev pub form_months : Form → Bool
form_months f = has f.before minutes
