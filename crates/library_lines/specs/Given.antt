-- docs/LINES.md, "Library example": numbers with a sign, zones and records, as fields of a line.
use Rattle.std.specs.Prelude.{Bool, true, false, List, ℕ, ◌+◌, Option, Some, None, option_map, eqb, length}
use Prim.Native.Char.{code}
use Rattle.basis.specs.Choice.{pick}
use Rattle.basis.specs.Letters.{bytes}
use Rattle.timetable.specs.Fields.{field_at, has_field}
use Rattle.numerals.specs.Reading.{at}
use Rattle.calendar.specs.declared.Date.{Date}
use Rattle.condition_words.specs.Words.{between, same}
use Rattle.condition_symbols.specs.Symbols.{named}
use Rattle.line_fields.specs.Numbers.{greatest, number_of}
use Rattle.value.specs.Rows.{same_kind, is_moment}
use Rattle.value.specs.Clocks.{with_time, with_size}
use Rattle.value.specs.declared.Offset.{Offset}
use Rattle.value.specs.declared.Offset.TheVariants.{East, West}
use Rattle.value.specs.declared.DateTime.{DateTime}
use Rattle.value.specs.declared.DayTime.{DayTime}
use Rattle.value.specs.declared.Kind.{Kind}
use Rattle.value.specs.declared.Kind.TheVariants as KV
use Rattle.value.specs.declared.Value.{Value}
use Rattle.value.specs.declared.Value.TheVariants as VV
use Rattle.library_lines.specs.declared.given.Signed.{Signed}
use Rattle.library_lines.specs.declared.given.TimeGiven.{TimeGiven}

-- the greatest numbers of one, two and four bytes
abbrev pub one_byte : ℕ
one_byte = 255

abbrev pub two_bytes : ℕ
two_bytes = 65_535

abbrev pub four_bytes : ℕ
four_bytes = 4_294_967_295

-- "S is `+` or `-` and directly after it one to twenty digits", at most a bound
abbrev pub with_sign : Bool → Option ℕ → Option Signed
with_sign minus n = option_map (λ (v : ℕ). record { negative = minus; value = v }) n

-- the number after the first byte
abbrev pub after_sign : ℕ → List ℕ → Option ℕ
after_sign most s = number_of most (between s 1 (length s))

abbrev pub signed_of : ℕ → List ℕ → Option Signed
signed_of most s =
    pick (eqb (at s 0) (code "+")) (with_sign false (after_sign most s))
    (pick (eqb (at s 0) (code "-")) (with_sign true (after_sign most s)) None)

-- "Z is `none`, or `+` (east of UTC) or `-` (west) and directly after it the minutes"
abbrev pub offset_of : Signed → Offset
offset_of n = pick n.negative (West n.value) (East n.value)

abbrev pub zone_by : Option Signed → Option (Option Offset)
zone_by n = option_map (λ (m : Signed). Some (offset_of m)) n

abbrev pub zone_given : List ℕ → Option (Option Offset)
zone_given s = pick (same s (bytes "none")) (Some None) (zone_by (signed_of two_bytes s))

-- Y, M and D in three fields
abbrev pub day_given : Option ℕ → Option ℕ → Option ℕ → Option Date
day_given None m d = None
day_given (Some y) None d = None
day_given (Some y) (Some m) None = None
day_given (Some y) (Some m) (Some d) = Some (record { year = y; month = m; day = d })

abbrev pub day_at : List ℕ → ℕ → Option Date
day_at line i = day_given (number_of two_bytes (field_at line i)) (number_of one_byte (field_at line (i + 1))) (number_of one_byte (field_at line (i + 2)))

-- SECOND and NANO in two fields
abbrev pub time_given : Option ℕ → Option ℕ → Option TimeGiven
time_given None n = None
time_given (Some s) None = None
time_given (Some s) (Some n) = Some (record { second = s; nanosecond = n })

abbrev pub time_at : List ℕ → ℕ → Option TimeGiven
time_at line i = time_given (number_of four_bytes (field_at line i)) (number_of four_bytes (field_at line (i + 1)))

-- S in seconds and NANO in two fields: one sign for both
abbrev pub lasting_given : Option Signed → Option ℕ → Option DayTime
lasting_given None n = None
lasting_given (Some s) None = None
lasting_given (Some s) (Some n) = Some (with_size s.negative s.value n)

abbrev pub lasting_at : List ℕ → ℕ → Option DayTime
lasting_at line i = lasting_given (signed_of greatest (field_at line i)) (number_of four_bytes (field_at line (i + 1)))

-- Y, M, D, SECOND, NANO and Z in six fields
abbrev pub moment_given : Option Date → Option TimeGiven → Option (Option Offset) → Option DateTime
moment_given None t z = None
moment_given (Some d) None z = None
moment_given (Some d) (Some t) None = None
moment_given (Some d) (Some t) (Some z) = Some (with_time d t.second t.nanosecond z)

abbrev pub moment_at : List ℕ → ℕ → Option DateTime
moment_at line i = moment_given (day_at line i) (time_at line (i + 3)) (zone_given (field_at line (i + 5)))

-- the date, time or dateTime that such fields are, and the durations
abbrev pub given_moment : Kind → Option DateTime → Option Value
given_moment k m = option_map (VV.Moment k) m

abbrev pub given_day_time : Option DayTime → Option Value
given_day_time n = option_map VV.DayTime n

abbrev pub given_year_month : Option Signed → Option Value
given_year_month n = option_map (λ (m : Signed). VV.YearMonth (record { negative = m.negative; months = m.value })) n

-- "V is the rest of the line": no field stands after it
abbrev pub unless_more : Bool → Option Value → Option Value
unless_more more g = pick more None g

abbrev pub moment_by : Kind → List ℕ → ℕ → Option Value
moment_by k line i = unless_more (has_field line (i + 6)) (given_moment k (moment_at line i))

abbrev pub day_time_by : List ℕ → ℕ → Option Value
day_time_by line i = unless_more (has_field line (i + 2)) (given_day_time (lasting_at line i))

abbrev pub year_month_by : List ℕ → ℕ → Option Value
year_month_by line i = unless_more (has_field line (i + 1)) (given_year_month (signed_of four_bytes (field_at line i)))

abbrev pub duration_by : Kind → List ℕ → ℕ → Option Value
duration_by k line i =
    pick (same_kind k KV.DayTimeDuration) (day_time_by line i) (pick (same_kind k KV.YearMonthDuration) (year_month_by line i) None)

-- the record of a kind: a date, time or dateTime, or a duration
abbrev pub record_by : Kind → List ℕ → ℕ → Option Value
record_by k line i = pick (is_moment k) (moment_by k line i) (duration_by k line i)

abbrev pub record_named : Option Kind → List ℕ → ℕ → Option Value
record_named None line i = None
record_named (Some k) line i = record_by k line i

abbrev pub record_at : List ℕ → ℕ → Option Value
record_at line i = record_named (named (field_at line i)) line (i + 1)
