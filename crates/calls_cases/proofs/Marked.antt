-- The marked cases hold: one test over the whole table, by computation, and from it each row's equation.
use mathlib.Core.Path.{◌≡◌, refl}
use mathlib.Core.Bool.{true}
use mathlib.Core.List.{List, [], ◌∷◌}
use Prim.Native.Nat.{ℕ, zero, suc, ◌<◌}
use native.Mathlib.Omega.{arith}
use lib.Dec.{eqb}
use lib.ListN.{length, get_or}
use borrow.Author.Tests.{eqb-true}
use Rattle.basis.proofs.Tests.{both_left, both_right}
use Rattle.basis.specs.Choice.{both, every}
use Rattle.calendar.specs.Calendar.{total, period_of, date_of, dated_of}
use Rattle.timetable.specs.Fields.{fields_of, has_field, field_at}
use Rattle.timetable.specs.Parted.{onto, parted}
use Rattle.value.specs.Rows.{has, is_moment, is_dated, is_clocked, of_kind}
use Rattle.value.specs.Kinds.{ok_value}
use Rattle.value_instants.specs.Ticks.{local_of, instant_of, in_years, placed_at}
use Rattle.value.specs.Clocks.{clock_of, same_clock, ticks_in}
use Rattle.value.specs.Values.{ok_date, ok_offset, ok_zone, ok_time_part, ok_date_time, ok_signed, ok_day_time}
use Rattle.numerals.specs.Reading.{is_digit, number, fraction_at}
use Rattle.numerals.specs.Writing.{digits, shortest, decimal, kept_digits, fraction_text}
use Rattle.text_scan.specs.Scanning.{pair_at, is_pair, with_pair, fraction_part, zone_signed, zone_part, four_zeros, year_at, year_part, part_at, scanned}
use Rattle.text_checks.specs.Reading.{next_day, ok_clock, is_day_end, clock_ticks, good_clock, clocked, ok_parts, zone_is, on_calendar, bounded, judge}
use Rattle.text_layouts.specs.Reading.{read_layout}
use Rattle.text_layouts.specs.Writing.{pair_of, part_text, layout_text}
use Rattle.text_forms.specs.Forms.{weight}
use Rattle.text_durations.specs.Spelling.{shown, shown_all, left, body, duration_text}
use Rattle.text_durations.specs.Walks.{component, components, shape_from, shape, counted, read_by}
use Rattle.text_blanks.specs.Blanks.{is_blank, leading_blanks, untrailed, stripped, bare}
use Rattle.text.specs.Reading.{read_bare, read_as}
use Rattle.text.specs.Writing.{text_of}
use Rattle.operation_quantities.specs.Results.{in_ticks, in_months, at_ticks}
use Rattle.operation_shifting.specs.Shifts.{moved_to, moved, shifted}
use Rattle.operation_adjusting.specs.Adjustment.{is_zone, adjusted_from, moment_to, value_to, adjust_of}
use Rattle.operation_ordering.specs.Order.{up, down, order_in}
use Rattle.operation_arithmetic.specs.Sums.{sum_of, plus_of, less_moment, difference_in, minus_in}
use Rattle.condition_words.specs.Words.{same}
use Rattle.condition_symbols.specs.Symbols.{named}
use Rattle.calls.specs.Answers.{refused_text, one_text, two_text, answer_by, answer_of}
use Rattle.calls_asked.specs.Asked.{exactly, one_form, two_form, pair_by, form_by, form_of}
use Rattle.calls_replies.specs.Replies.{number_text}
use Rattle.calls_cases.specs.Table.{TableRow, no_row, table, row_holds, tests, all_hold}

pub all_hold_lem : all_hold ≡ true
unfolding both every total period_of date_of dated_of fields_of has_field field_at onto parted has is_moment is_dated is_clocked of_kind ok_value local_of instant_of in_years placed_at ok_date ok_offset ok_zone ok_time_part ok_date_time ok_signed ok_day_time clock_of same_clock ticks_in is_digit number fraction_at digits shortest decimal kept_digits fraction_text pair_at is_pair with_pair fraction_part zone_signed zone_part four_zeros year_at year_part part_at scanned next_day ok_clock is_day_end clock_ticks good_clock clocked ok_parts zone_is on_calendar bounded judge read_layout pair_of part_text layout_text weight shown shown_all left body duration_text component components shape_from shape counted read_by is_blank leading_blanks untrailed stripped bare read_bare read_as text_of in_ticks in_months at_ticks moved_to moved shifted is_zone adjusted_from moment_to value_to adjust_of up down order_in sum_of plus_of less_moment difference_in minus_in same named one_text two_text answer_by answer_of exactly one_form two_form pair_by form_by form_of number_text refused_text table row_holds tests all_hold
all_hold_lem = refl

alike : (a b : List ℕ) → same a b ≡ true → a ≡ b
unfolding same
alike [] [] e = refl
alike [] (y ∷ ys) e = cc
alike (x ∷ xs) [] e = cc
alike (x ∷ xs) (y ∷ ys) e = λ i. eqb-true x y (both_left (eqb x y) (same xs ys) e) i ∷ alike xs ys (both_right (eqb x y) (same xs ys) e) i

rows_hold : (rows : List TableRow) → every (tests rows) ≡ true → (i : ℕ) → i < length rows → answer_of (get_or rows i no_row).line ≡ (get_or rows i no_row).answer
unfolding every tests row_holds
rows_hold [] e i h = absurd (never i h)
  where
    never : (i : ℕ) → i < 0 → ⊥
    never i l = omega arith
rows_hold (r ∷ rs) e zero h = alike (answer_of r.line) r.answer (both_left (row_holds r) (every (tests rs)) e)
rows_hold (r ∷ rs) e (suc i) h = rows_hold rs (both_right (row_holds r) (every (tests rs)) e) i (omega arith)

-- each row of the table
pub each_holds : (i : ℕ) → i < length table → answer_of (get_or table i no_row).line ≡ (get_or table i no_row).answer
unfolding all_hold
each_holds i h = rows_hold table all_hold_lem i h
