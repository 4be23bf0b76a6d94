-- The round trip over the kinds: what is written along a row that passes its tests reads as what the row keeps of the
-- record, and a record of a kind is kept whole.
use mathlib.Core.Path.{◌≡◌, refl, ap, ◌∙◌}
use mathlib.Core.Bool.{true, false}
use mathlib.Core.List.{List}
use Prim.Native.Nat.{ℕ}
use Prim.Native.Char.{code}
use native.Mathlib.Omega.{arith}
use lib.ListN.{length}
use Rattle.basis.specs.Choice.{pick, both}
use Rattle.basis.specs.Answer.{gives, refuses}
use Rattle.value.specs.Refusals.{bad_text}
use Rattle.value.specs.Values.{ok_date, ok_date_time}
use Rattle.value.specs.Rows.{is_moment, has, layout_of, template_of, kept_by, kept, of_kind}
use Rattle.value.specs.declared.DateTime.{DateTime}
use Rattle.value.specs.declared.Kind.{Kind}
use Rattle.value.specs.declared.Kind.TheVariants as KV
use Rattle.value.specs.declared.Value.TheVariants as VV
use Rattle.value.proofs.Good.{good, day_ok}
use Rattle.value.proofs.KindParts.{of_kind_kept}
use Rattle.value.proofs.RowTests.{ok_row, rows_pass}
use Rattle.value.proofs.RowLaws.{row_day, row_start, kept_good, moment_zone}
use Rattle.numerals.specs.Reading.{is_digit}
use Rattle.text_scan.specs.Scanning.{uncapped, is_pair, start_of, scanned, scanned_parts}
use Rattle.text_checks.specs.Reading.{judge}
use Rattle.text_layouts.specs.Reading.{read_layout}
use Rattle.text_layouts.specs.Writing.{layout_text, kind_text}
use Rattle.text_layouts.proofs.Keeping.{all_kept, sane, follows, quiet_head, is_nil}
use Rattle.text_layouts.proofs.Trip.{Sound, round_from}
use Rattle.text_layouts.proofs.KeptParts.{year_kept, month_kept, day_kept, cast_is}

-- the texts of the rows can be told apart
rows_sane : (k : Kind) → sane (layout_of k) ≡ true
unfolding sane follows quiet_head is_nil is_pair is_digit both
rows_sane KV.Date = refl
rows_sane KV.Time = refl
rows_sane KV.DateTime = refl
rows_sane KV.DayTimeDuration = refl
rows_sane KV.YearMonthDuration = refl

-- over every layout and template that pass the tests
module _ (ps : List ℕ) (t : DateTime) (r : ok_row ps t ≡ true) where
  sound_start : Sound (start_of t)
  sound_start =
      record {
        date = record { plus = refl; year = (row_day ps t r).year_to };
        clock = record { short = refl; hour = omega (arith, row_start ps t r); minute = omega arith; second = omega arith };
        zone = record { minutes = omega arith; offset = omega arith };
      }

  -- the date that a row keeps is a day of the calendar
  kept_date : (v : DateTime) → ok_date_time v ≡ true
      → ok_date (all_kept ps v (start_of t)).date.year (all_kept ps v (start_of t)).date.month (all_kept ps v (start_of t)).date.day ≡ true
  kept_date v o =
      (λ i. ok_date (year_kept v o ps (start_of t) i) (month_kept v o ps (start_of t) i) (day_kept v o ps (start_of t) i))
      ∙ day_ok _ (good (kept_by ps t v) (kept_good ps t r v o)).day

  row_reads : (k : Kind) (v : DateTime) → sane ps ≡ true → has ps (code "z") ≡ true → ok_date_time v ≡ true
      → judge k (length (layout_text ps v)) (scanned uncapped ps (layout_text ps v) (start_of t)) ≡ gives (VV.Moment k (kept_by ps t v))
  row_reads k v s z o =
      round_from (start_of t) refl refl sound_start k ps v s o (kept_date v o) ∙ ap (λ (d : DateTime). gives (VV.Moment k d)) (cast_is ps t v r o z)

-- a kind that has a layout reads along it, and no text is a duration's by a layout
pub by_layout : (k : Kind) → is_moment k ≡ true → (s : List ℕ) → read_layout k s ≡ judge k (length s) (scanned_parts uncapped k s)
unfolding read_layout
by_layout k e s = λ i. pick (e i) (judge k (length s) (scanned_parts uncapped k s)) (refuses bad_text)

pub no_layout : (k : Kind) → is_moment k ≡ false → (s : List ℕ) → read_layout k s ≡ refuses bad_text
unfolding read_layout
no_layout k e s = λ i. pick (e i) (judge k (length s) (scanned_parts uncapped k s)) (refuses bad_text)

-- what is written of a record as a kind reads as what the kind keeps of the record
pub written_reads : (k : Kind) (v : DateTime) → is_moment k ≡ true → ok_date_time v ≡ true → read_layout k (kind_text k v) ≡ gives (VV.Moment k (kept k v))
written_reads k v m o = by_layout k m (kind_text k v) ∙ row_reads (layout_of k) (template_of k) (rows_pass k) k v (rows_sane k) (moment_zone k m) o

-- THE ROUND TRIP: a record of a kind, within the bounds, is read from its text
pub round_trip : (k : Kind) (v : DateTime) → is_moment k ≡ true → ok_date_time v ≡ true → of_kind k v ≡ true → read_layout k (kind_text k v) ≡ gives (VV.Moment k v)
round_trip k v m o e = written_reads k v m o ∙ ap (λ (d : DateTime). gives (VV.Moment k d)) (of_kind_kept k v e)
