-- Document 02, b, by computation: lines and what each stands for.
use mathlib.Core.Path.{◌≡◌, refl}
use mathlib.Core.List.{List, [], ◌∷◌}
use Prim.Native.String.{String}
use lib.ListN.{length}
use Rattle.basis.specs.Choice.{both, every}
use Rattle.basis.specs.Answer.{only_number, and_then}
use Rattle.basis.specs.Letters.{bytes}
use Rattle.calendar.specs.Calendar.{total, period_of, date_of, dated_of}
use Rattle.value.specs.Refusals.{bad_text, no_field, beyond_result, bad_step, too_many}
use Rattle.value.specs.Clocks.{clock_of, ticks_in}
use Rattle.value.specs.Rows.{is_moment, has}
use Rattle.value.specs.Values.{ok_date}
use Rattle.value_instants.specs.Ticks.{utc, local_of, instant_of, past_years}
use Rattle.timetable.specs.Parted.{onto, parted}
use Rattle.timetable.specs.Fields.{fields_of, has_field, field_at}
use Rattle.timetable.specs.Rows.{row_from, row_of, with_second, has_cell, cell_text}
use Rattle.condition_words.specs.Words.{same}
use Rattle.numerals.specs.Reading.{is_digit, number, fraction_at}
use Rattle.numerals.specs.Writing.{digits, shortest, decimal, kept_digits, fraction_text}
use Rattle.text_scan.specs.Scanning.{pair_at, is_pair, with_pair, fraction_part, zone_signed, zone_part, four_zeros, year_at, year_part, part_at, scanned}
use Rattle.text_checks.specs.Reading.{next_day, ok_clock, is_day_end, clock_ticks, good_clock, clocked, ok_parts, zone_is, on_calendar, bounded, judge}
use Rattle.text_layouts.specs.Reading.{read_layout}
use Rattle.text_layouts.specs.Writing.{pair_of, part_text, layout_text}
use Rattle.text_forms.specs.Forms.{weight}
use Rattle.text_durations.specs.Walks.{component, components, shape_from, shape, counted, read_by}
use Rattle.text_blanks.specs.Blanks.{is_blank, leading_blanks, untrailed, stripped, bare}
use Rattle.text.specs.Reading.{read_bare, read_as}
use Rattle.text.specs.Writing.{text_of}
use Rattle.text_fields.specs.Fields.{read_field}
use Rattle.run_times.specs.Occurrences.{count_of, some_below, some_passes, run_checked}
use Rattle.run_cases.specs.Cases.{Case, row_case, miss_case, refusal_case, case_at}
use Rattle.run_cases.specs.StandsFor.{is_run, fields_read, run_of, occurrences, stands_for}

-- the line whose fields are parted by tabs
abbrev cases : String → List Case
cases line = stands_for utc (bytes line)

-- what stands there where the second field is a made text
abbrev with : String → String → Case
with line made = row_case (with_second (bytes made) (row_of (bytes line)))

abbrev night_bus : String
night_bus = "N1\tevery\t2026-11-15T23:00:00+02:00\t2026-11-16T01:00:00+02:00\tPT10M\tHarbour"

-- a night bus every ten minutes: thirteen departures, the last at the last instant itself, in first's zone
night_bus_lem : (length (cases night_bus) ≡ 13)
    × (case_at (cases night_bus) 0 ≡ with night_bus "2026-11-15T23:00:00+02:00")
    × (case_at (cases night_bus) 12 ≡ with night_bus "2026-11-16T01:00:00+02:00")
    × (case_at (cases night_bus) 13 ≡ miss_case)
unfolding stands_for is_run run_of fields_read occurrences case_at and_then read_field row_of row_from with_second has_cell cell_text fields_of has_field field_at onto parted same both every run_checked count_of some_passes some_below past_years local_of instant_of total period_of date_of dated_of ok_date clock_of ticks_in is_digit number fraction_at digits shortest decimal kept_digits fraction_text pair_at is_pair with_pair fraction_part zone_signed zone_part four_zeros year_at year_part part_at scanned next_day ok_clock is_day_end clock_ticks good_clock clocked ok_parts zone_is on_calendar bounded judge read_layout pair_of part_text layout_text weight component components shape_from shape counted read_by is_blank leading_blanks untrailed stripped bare is_moment has read_bare read_as text_of
night_bus_lem = (refl, refl, refl, refl)

-- 24:00:00 is the next day's 00:00:00, at place 0 too; here first is last
abbrev day_end : String
day_end = "N2\tevery\t1999-12-31T24:00:00Z\t2000-01-01T00:00:00Z\tPT1H"

day_end_lem : cases day_end ≡ with day_end "2000-01-01T00:00:00Z" ∷ []
unfolding stands_for is_run run_of fields_read occurrences case_at and_then read_field row_of row_from with_second has_cell cell_text fields_of has_field field_at onto parted same both every run_checked count_of some_passes some_below past_years local_of instant_of total period_of date_of dated_of ok_date clock_of ticks_in is_digit number fraction_at digits shortest decimal kept_digits fraction_text pair_at is_pair with_pair fraction_part zone_signed zone_part four_zeros year_at year_part part_at scanned next_day ok_clock is_day_end clock_ticks good_clock clocked ok_parts zone_is on_calendar bounded judge read_layout pair_of part_text layout_text weight component components shape_from shape counted read_by is_blank leading_blanks untrailed stripped bare is_moment has read_bare read_as text_of
day_end_lem = refl

-- instants decide, and first's zone is kept: 10:00 at +02:00 is 08:00 of UTC
abbrev two_zones : String
two_zones = "N3\tevery\t2026-03-01T10:00:00+02:00\t2026-03-01T09:00:00Z\tPT30M"

two_zones_lem : cases two_zones
    ≡ with two_zones "2026-03-01T10:00:00+02:00" ∷ with two_zones "2026-03-01T10:30:00+02:00" ∷ with two_zones "2026-03-01T11:00:00+02:00" ∷ []
unfolding stands_for is_run run_of fields_read occurrences case_at and_then read_field row_of row_from with_second has_cell cell_text fields_of has_field field_at onto parted same both every run_checked count_of some_passes some_below past_years local_of instant_of total period_of date_of dated_of ok_date clock_of ticks_in is_digit number fraction_at digits shortest decimal kept_digits fraction_text pair_at is_pair with_pair fraction_part zone_signed zone_part four_zeros year_at year_part part_at scanned next_day ok_clock is_day_end clock_ticks good_clock clocked ok_parts zone_is on_calendar bounded judge read_layout pair_of part_text layout_text weight component components shape_from shape counted read_by is_blank leading_blanks untrailed stripped bare is_moment has read_bare read_as text_of
two_zones_lem = refl

-- without a zone first counts as UTC, and its occurrences have none
abbrev no_zone : String
no_zone = "N4\tevery\t2026-03-01T10:00:00\t2026-03-01T11:15:00+01:00\tPT15M"

no_zone_lem : cases no_zone ≡ with no_zone "2026-03-01T10:00:00" ∷ with no_zone "2026-03-01T10:15:00" ∷ []
unfolding stands_for is_run run_of fields_read occurrences case_at and_then read_field row_of row_from with_second has_cell cell_text fields_of has_field field_at onto parted same both every run_checked count_of some_passes some_below past_years local_of instant_of total period_of date_of dated_of ok_date clock_of ticks_in is_digit number fraction_at digits shortest decimal kept_digits fraction_text pair_at is_pair with_pair fraction_part zone_signed zone_part four_zeros year_at year_part part_at scanned next_day ok_clock is_day_end clock_ticks good_clock clocked ok_parts zone_is on_calendar bounded judge read_layout pair_of part_text layout_text weight component components shape_from shape counted read_by is_blank leading_blanks untrailed stripped bare is_moment has read_bare read_as text_of
no_zone_lem = refl

-- last before first is one miss; a blank after the word makes a plain line
abbrev blank : String
blank = "N5\tevery \t2026-03-01T10:00:00Z\t2026-03-01T09:00:00Z\tPT1H"

empty_run : cases "N5\tevery\t2026-03-01T10:00:00Z\t2026-03-01T09:59:59Z\tPT1H" ≡ miss_case ∷ []
unfolding stands_for is_run run_of fields_read occurrences case_at and_then read_field row_of row_from with_second has_cell cell_text fields_of has_field field_at onto parted same both every run_checked count_of some_passes some_below past_years local_of instant_of total period_of date_of dated_of ok_date clock_of ticks_in is_digit number fraction_at digits shortest decimal kept_digits fraction_text pair_at is_pair with_pair fraction_part zone_signed zone_part four_zeros year_at year_part part_at scanned next_day ok_clock is_day_end clock_ticks good_clock clocked ok_parts zone_is on_calendar bounded judge read_layout pair_of part_text layout_text weight component components shape_from shape counted read_by is_blank leading_blanks untrailed stripped bare is_moment has read_bare read_as text_of
empty_run = refl

plain : cases blank ≡ row_case (row_of (bytes blank)) ∷ []
unfolding stands_for is_run run_of fields_read occurrences case_at and_then read_field row_of row_from with_second has_cell cell_text fields_of has_field field_at onto parted same both every run_checked count_of some_passes some_below past_years local_of instant_of total period_of date_of dated_of ok_date clock_of ticks_in is_digit number fraction_at digits shortest decimal kept_digits fraction_text pair_at is_pair with_pair fraction_part zone_signed zone_part four_zeros year_at year_part part_at scanned next_day ok_clock is_day_end clock_ticks good_clock clocked ok_parts zone_is on_calendar bounded judge read_layout pair_of part_text layout_text weight component components shape_from shape counted read_by is_blank leading_blanks untrailed stripped bare is_moment has read_bare read_as text_of
plain = refl

-- the refusals, in their order: a field's own before a later one is missing; 17 also where last is before first; 18 before 4
refusals :
    (cases "N6\tevery\t2026-03-01T10:00:00Z\t2026-03-01T11:00:00Z" ≡ refusal_case (only_number no_field) ∷ [])
    × (cases "N6\tevery\t2026-03-01 10:00:00Z\t2026-03-01T11:00:00Z" ≡ refusal_case (only_number bad_text) ∷ [])
    × (cases "N6\tevery\t2026-03-01T10:00:00Z\t2026-03-01T11:00:00Z\tPT0S" ≡ refusal_case (only_number bad_step) ∷ [])
    × (cases "N6\tevery\t2026-03-01T10:00:00Z\t2026-03-01T09:00:00Z\t-PT5M" ≡ refusal_case (only_number bad_step) ∷ [])
    × (cases "N6\tevery\t2026-03-01T00:00:00Z\t2026-03-02T00:00:00Z\tPT1M" ≡ refusal_case (only_number too_many) ∷ [])
    × (cases "N6\tevery\t9999-12-31T23:50:00+14:00\t9999-12-31T23:50:00Z\tPT0.1S" ≡ refusal_case (only_number too_many) ∷ [])
    × (cases "N6\tevery\t9999-12-31T23:50:00+14:00\t9999-12-31T10:00:00Z\tPT10M" ≡ refusal_case (only_number beyond_result) ∷ [])
unfolding stands_for is_run run_of fields_read occurrences case_at and_then read_field row_of row_from with_second has_cell cell_text fields_of has_field field_at onto parted same both every run_checked count_of some_passes some_below past_years local_of instant_of total period_of date_of dated_of ok_date clock_of ticks_in is_digit number fraction_at digits shortest decimal kept_digits fraction_text pair_at is_pair with_pair fraction_part zone_signed zone_part four_zeros year_at year_part part_at scanned next_day ok_clock is_day_end clock_ticks good_clock clocked ok_parts zone_is on_calendar bounded judge read_layout pair_of part_text layout_text weight component components shape_from shape counted read_by is_blank leading_blanks untrailed stripped bare is_moment has read_bare read_as text_of
refusals = (refl, refl, refl, refl, refl, refl, refl)

-- a step of a nanosecond, over the end of a year; the last is the last instant itself
abbrev nanoseconds : String
nanoseconds = "N9\tevery\t2023-12-31T23:59:59.999999998Z\t2024-01-01T00:00:00.000000001Z\tPT0.000000001S"

by_nanoseconds : cases nanoseconds
    ≡ with nanoseconds "2023-12-31T23:59:59.999999998Z"
    ∷ with nanoseconds "2023-12-31T23:59:59.999999999Z"
    ∷ with nanoseconds "2024-01-01T00:00:00Z"
    ∷ with nanoseconds "2024-01-01T00:00:00.000000001Z"
    ∷ []
unfolding stands_for is_run run_of fields_read occurrences case_at and_then read_field row_of row_from with_second has_cell cell_text fields_of has_field field_at onto parted same both every run_checked count_of some_passes some_below past_years local_of instant_of total period_of date_of dated_of ok_date clock_of ticks_in is_digit number fraction_at digits shortest decimal kept_digits fraction_text pair_at is_pair with_pair fraction_part zone_signed zone_part four_zeros year_at year_part part_at scanned next_day ok_clock is_day_end clock_ticks good_clock clocked ok_parts zone_is on_calendar bounded judge read_layout pair_of part_text layout_text weight component components shape_from shape counted read_by is_blank leading_blanks untrailed stripped bare is_moment has read_bare read_as text_of
by_nanoseconds = refl
