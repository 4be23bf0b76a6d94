-- Document 01, "Values and their bounds", "Reading text" and "Operations": a kind is a row, its layout and its
-- template. The layout's letters are the parts that the kind has, in the order of its text; the template stands for
-- the parts that it has not. So a date is a DateTime at 00:00:00 and a time is one on 1972-12-31: they are ordered,
-- subtracted and adjusted as such.
use Rattle.std.specs.Prelude.{Bool, true, false, List, [], ◌∷◌, ℕ, eqb, ltb, length, None}
use Prim.Native.Char.{code}
use Rattle.basis.specs.Choice.{pick, every}
use Rattle.basis.specs.Letters.{bytes}
use Rattle.value.specs.Clocks.{at_clock, at_clock_of, same_clock}
use Rattle.value.specs.declared.DateTime.{DateTime}
use Rattle.value.specs.declared.OwnParts.{OwnParts}
use Rattle.value.specs.declared.Kind.{Kind}
use Rattle.value.specs.declared.Kind.TheVariants as KV

-- Y year, M month, D day, h hour, m minute, s second, f fraction, z zone; any other byte stands for itself.
-- The durations have no layout: their rows are the forms of crate `text_durations`.
abbrev pub layout_of : Kind → List ℕ
layout_of KV.Date = bytes "Y-M-Dz"
layout_of KV.Time = bytes "h:m:sfz"
layout_of KV.DateTime = bytes "Y-M-DTh:m:sfz"
layout_of KV.DayTimeDuration = []
layout_of KV.YearMonthDuration = []

-- the start of a day, without zone
abbrev pub day_start : ℕ → ℕ → ℕ → DateTime
day_start y m d = at_clock (record { year = y; month = m; day = d }) 0 None

-- 1972-12-31T00:00:00, the reference day of document 01
abbrev pub template_of : Kind → DateTime
template_of KV.Date = day_start 1972 12 31
template_of KV.Time = day_start 1972 12 31
template_of KV.DateTime = day_start 1972 12 31
template_of KV.DayTimeDuration = day_start 1972 12 31
template_of KV.YearMonthDuration = day_start 1972 12 31

-- kinds are the same where their numbers are
abbrev pub kind_number : Kind → ℕ
kind_number KV.Date = 0
kind_number KV.Time = 1
kind_number KV.DateTime = 2
kind_number KV.DayTimeDuration = 3
kind_number KV.YearMonthDuration = 4

abbrev pub same_kind : Kind → Kind → Bool
same_kind j k = eqb (kind_number j) (kind_number k)

-- a kind that has a layout is a moment, a date, a time or a dateTime; the others are durations
unfoldable pub is_moment : Kind → Bool
is_moment k = ltb 0 (length (layout_of k))

-- whether a layout has a letter, and a kind the part that it stands for
unfoldable pub has : List ℕ → ℕ → Bool
has [] c = false
has (p ∷ ps) c = pick (eqb p c) true (has ps c)

abbrev pub has_part : Kind → ℕ → Bool
has_part k c = has (layout_of k) c

-- the parts that are kept of a record: year, month, day, and the time of day, which has an hour
abbrev pub parts_in : List ℕ → OwnParts
parts_in ps = record { year = has ps (code "Y"); month = has ps (code "M"); day = has ps (code "D"); clock = has ps (code "h") }

abbrev pub own_parts : Kind → OwnParts
own_parts k = parts_in (layout_of k)

-- a whole date: year, month and day
unfoldable pub is_dated : Kind → Bool
is_dated k = every ((own_parts k).year ∷ (own_parts k).month ∷ (own_parts k).day ∷ [])

-- a time of day
unfoldable pub is_clocked : Kind → Bool
is_clocked k = (own_parts k).clock

-- what a row keeps of a record: the parts that it has, its template's for the others, and the zone
abbrev pub kept_by : List ℕ → DateTime → DateTime → DateTime
kept_by ps t d =
    at_clock_of
    (record {
      year = pick (parts_in ps).year d.year t.year;
      month = pick (parts_in ps).month d.month t.month;
      day = pick (parts_in ps).day d.day t.day;
    })
    (pick (parts_in ps).clock d t)
    d.zone

abbrev pub kept : Kind → DateTime → DateTime
kept k d = kept_by (layout_of k) (template_of k) d

-- a record is of a kind where the kind keeps all of it
unfoldable pub of_kind : Kind → DateTime → Bool
of_kind k d =
    every
    (eqb d.year (kept k d).year
    ∷ eqb d.month (kept k d).month
    ∷ eqb d.day (kept k d).day
    ∷ same_clock d (kept k d)
    ∷ [])
