-- The laws of rows, once for every layout and template that pass the test of a row: what a row keeps of a date is a
-- date. Then over the kinds, whose rows pass.
use Rattle.std.specs.Prelude.{Option}
use mathlib.Core.Path.{◌≡◌, refl, ap, sym, ◌∙◌}
use mathlib.Core.Bool.{Bool, true, false, not}
use mathlib.Core.List.{List, [], ◌∷◌}
use Prim.Native.Nat.{ℕ, suc, ◌-◌, ◌≤◌}
use Prim.Native.Char.{code}
use native.Mathlib.Omega.{arith}
use lib.Dec.{eqb, ltb}
use lib.ListN.{length}
use borrow.Author.Tests.{leb-true, eqb-true, eq-eqb, lt-ltb, not-true, not-false}
use Rattle.basis.specs.Choice.{pick, both, every}
use Rattle.basis.proofs.Tests.{both_left, both_right, never}
use Rattle.calendar.specs.declared.Date.{Date}
use Rattle.calendar.specs.Calendar.{month_days, month_count, leap_row}
use Rattle.calendar.proofs.Months.{month_le}
use Rattle.value.specs.Bounds.{min_year, max_year}
use Rattle.value.specs.Clocks.{clock_of, at_clock, at_clock_of}
use Rattle.value.specs.Values.{ok_time_part, ok_date_time, date_in}
use Rattle.value.specs.Rows.{has, has_part, is_moment, is_dated, is_clocked, layout_of, template_of, kind_number, same_kind, kept_by, kept, of_kind}
use Rattle.value.specs.Kinds.{ok_value}
use Rattle.value.specs.declared.DateTime.{DateTime}
use denote.Enum.Declared.{tag_of}
use denote.Enum.Bare.{sameb}
use Rattle.value.specs.contracts.Kind.{the_type}
use Rattle.value.specs.declared.Kind.{Kind}
use Rattle.value.specs.declared.Kind.TheVariants as KV
use Rattle.value.specs.declared.Value.TheVariants as VV
use Rattle.value.proofs.ClockLaws.{time_part_kept}
use Rattle.value.proofs.Good.{GoodDay, good_day, Good, good, record_ok}
use Rattle.value.proofs.KindParts.{kept_again, kept_of_kind, of_kind_kept, moment_ok}
use Rattle.calendar.proofs.MonthRows.{february_shortest, ordinary_shortest, leap_longest}
use Rattle.value.proofs.RowTests.{meets, clock_whole, ok_row, rows_pass, kind_at, numbered}
use Rattle.value.specs.declared.Offset.{Offset}

-- the date of a record where a, b, c say which of year, month and day are its own
abbrev mixed : Bool → Bool → Bool → DateTime → DateTime → Date
mixed a b c t v = record { year = pick a v.year t.year; month = pick b v.month t.month; day = pick c v.day t.day }

-- a bound holds of what is picked where it holds of both
from : (a : Bool) (n x y : ℕ) → n ≤ x → n ≤ y → n ≤ pick a x y
from true n x y h e = h
from false n x y h e = e

upto : (a : Bool) (n x y : ℕ) → x ≤ n → y ≤ n → pick a x y ≤ n
upto true n x y h e = h
upto false n x y h e = e

mixed_day : (a b c : Bool) (t v : DateTime) → meets a b c t ≡ true → GoodDay (date_in v) → (mixed a b c t v).day ≤ month_days (mixed a b c t v).year (mixed a b c t v).month
mixed_day true true true t v e g = g.date.day_to
mixed_day true true false t v e g =
    omega (arith, leb-true t.day (month_days 1 2) e, february_shortest 1 v.month g.date.month_from g.date.month_to, ordinary_shortest v.year v.month)
mixed_day true false true t v e g =
    omega (arith, g.date.day_to, month_le (leap_row v.year) (v.month - 1), leb-true 31 (month_days 1 t.month) e, ordinary_shortest v.year t.month)
mixed_day true false false t v e g =
    omega (arith, leb-true t.day (month_days 1 t.month) e, ordinary_shortest v.year t.month)
mixed_day false true true t v e g =
    omega (arith, g.date.day_to, leap_longest t.year v.year v.month (leb-true 29 (month_days t.year 2) e))
mixed_day false true false t v e g =
    omega (arith, leb-true t.day (month_days t.year 2) e, february_shortest t.year v.month g.date.month_from g.date.month_to)
mixed_day false false true t v e g =
    omega (arith, g.date.day_to, month_le (leap_row v.year) (v.month - 1), leb-true 31 (month_days t.year t.month) e)
mixed_day false false false t v e g = leb-true t.day (month_days t.year t.month) e

mixed_good : (a b c : Bool) (t v : DateTime) → GoodDay (date_in t) → meets a b c t ≡ true → GoodDay (date_in v) → GoodDay (mixed a b c t v)
mixed_good a b c t v h e g =
    record {
      date =
          record {
            month_from = from b 1 v.month t.month g.date.month_from h.date.month_from;
            month_to = upto b month_count v.month t.month g.date.month_to h.date.month_to;
            day_from = from c 1 v.day t.day g.date.day_from h.date.day_from;
            day_to = mixed_day a b c t v e g;
          };
      year_from = from a min_year v.year t.year g.year_from h.year_from;
      year_to = upto a max_year v.year t.year g.year_to h.year_to;
    }

module _ (ps : List ℕ) (t : DateTime) (r : ok_row ps t ≡ true) where
  pub row_day : GoodDay (date_in t)
  unfolding ok_row every
  row_day = good_day (date_in t) (both_left _ _ r)

  row_meets : meets (has ps (code "Y")) (has ps (code "M")) (has ps (code "D")) t ≡ true
  unfolding ok_row every
  row_meets = both_left _ _ (both_right _ _ r)

  pub row_clocks : clock_whole ps ≡ true
  unfolding ok_row every
  row_clocks = both_left _ _ (both_right _ _ (both_right _ _ r))

  pub row_start : clock_of t ≡ 0
  unfolding ok_row every
  row_start = eqb-true (clock_of t) 0 (both_left _ _ (both_right _ _ (both_right _ _ (both_right _ _ r))))

  pub row_midnight : (t.second ≡ 0) × (t.nanosecond ≡ 0)
  unfolding clock_of
  row_midnight = let e = row_start in (omega arith, omega arith)

  pub row_zone : ltb 0 (length ps) ≡ true → has ps (code "z") ≡ true
  unfolding ok_row every
  row_zone e =
      let z : pick (ltb 0 (length ps)) (has ps (code "z")) true ≡ true = both_left _ _ (both_right _ _ (both_right _ _ (both_right _ _ (both_right _ _ r)))) in
      (λ i. pick (sym e i) (has ps (code "z")) true) ∙ z

  row_time : ok_time_part t ≡ true
  unfolding ok_time_part every both
  row_time = rw (row_midnight.0, row_midnight.1) refl

  -- WHAT A ROW KEEPS OF A RECORD WITHIN THE BOUNDS IS WITHIN THE BOUNDS
  pub kept_good : (v : DateTime) → ok_date_time v ≡ true → ok_date_time (kept_by ps t v) ≡ true
  kept_good v o =
      let g : Good v = good v o in
      record_ok (kept_by ps t v)
      (record {
        day = mixed_good (has ps (code "Y")) (has ps (code "M")) (has ps (code "D")) t v row_day row_meets g.day;
        time = time (has ps (code "h")) g.time;
        zone = g.zone;
      })
    where
      time : (b : Bool) → ok_time_part v ≡ true → ok_time_part (at_clock_of (date_in (kept_by ps t v)) (pick b v t) v.zone) ≡ true
      time true h = time_part_kept (date_in (kept_by ps t v)) v v.zone h
      time false h = time_part_kept (date_in (kept_by ps t v)) t v.zone row_time

-- a kind that is a moment has a zone, and one that has a part is a moment
pub moment_zone : (k : Kind) → is_moment k ≡ true → has_part k (code "z") ≡ true
unfolding is_moment
moment_zone k e = row_zone (layout_of k) (template_of k) (rows_pass k) e

has_some : (ps : List ℕ) (c : ℕ) → has ps c ≡ true → ltb 0 (length ps) ≡ true
unfolding has
has_some [] c e = e
has_some (p ∷ ps) c e = lt-ltb 0 (suc (length ps)) (omega arith)

pub dated_moment : (k : Kind) → is_dated k ≡ true → is_moment k ≡ true
unfolding is_moment is_dated every
dated_moment k e = has_some (layout_of k) (code "Y") (both_left _ _ e)

pub clocked_moment : (k : Kind) → is_clocked k ≡ true → is_moment k ≡ true
unfolding is_moment is_clocked
clocked_moment k e = has_some (layout_of k) (code "h") e

-- A CAST'S RESULT IS OF ITS KIND AND WITHIN THE BOUNDS, whatever the record was
pub cast_of_kind : (k : Kind) (v : DateTime) → of_kind k (kept k v) ≡ true
cast_of_kind k v = kept_of_kind k (kept k v) (kept_again (layout_of k) (template_of k) v)

pub cast_good : (k : Kind) (v : DateTime) → ok_date_time v ≡ true → ok_date_time (kept k v) ≡ true
cast_good k v o = kept_good (layout_of k) (template_of k) (rows_pass k) v o

-- A RECORD OF A KIND WITH ANOTHER PART OF ITS OWN IS OF THAT KIND
-- with another date, of a kind with a whole date
pub of_kind_dated : (k : Kind) (d : DateTime) (e : Date) (z : Option Offset) → is_dated k ≡ true → of_kind k d ≡ true → of_kind k (at_clock_of e d z) ≡ true
unfolding is_dated every
of_kind_dated k d e z p o =
    let y : has_part k (code "Y") ≡ true = both_left _ _ p in
    let m : has_part k (code "M") ≡ true = both_left _ _ (both_right _ _ p) in
    let g : has_part k (code "D") ≡ true = both_left _ _ (both_right _ _ (both_right _ _ p)) in
    kept_of_kind k (at_clock_of e d z)
    ((λ i. at_clock_of
    (record { year = pick (y i) e.year (template_of k).year; month = pick (m i) e.month (template_of k).month; day = pick (g i) e.day (template_of k).day })
    (pick (has_part k (code "h")) (at_clock_of e d z) (template_of k)) z)
    ∙ clock (has_part k (code "h"))
    ∙ (λ i. at_clock_of e (of_kind_kept k d o i) z))
  where
    clock : (b : Bool) → at_clock_of e (pick b (at_clock_of e d z) (template_of k)) z ≡ at_clock_of e (at_clock_of (date_in (kept k d)) (pick b d (template_of k)) d.zone) z
    clock true = refl
    clock false = refl

-- with another time of day, of a kind with a clock
pub of_kind_clocked : (k : Kind) (d : DateTime) (u : ℕ) (z : Option Offset) → is_clocked k ≡ true → of_kind k d ≡ true → of_kind k (at_clock (date_in d) u z) ≡ true
unfolding is_clocked
of_kind_clocked k d u z p o =
    kept_of_kind k (at_clock (date_in d) u z)
    ((λ i. at_clock_of (date_in (of_kind_kept k d o i)) (pick (p i) (at_clock (date_in d) u z) (template_of k)) z))

-- in another zone
pub of_kind_zoned : (k : Kind) (d : DateTime) (z : Option Offset) → of_kind k d ≡ true → of_kind k (at_clock_of (date_in d) d z) ≡ true
of_kind_zoned k d z o =
    kept_of_kind k (at_clock_of (date_in d) d z)
    (clock (has_part k (code "h")) ∙ (λ i. at_clock_of (date_in (of_kind_kept k d o i)) (of_kind_kept k d o i) z))
  where
    clock : (b : Bool) → at_clock_of (date_in (kept k d)) (pick b (at_clock_of (date_in d) d z) (template_of k)) z ≡ at_clock_of (date_in (kept k d)) (at_clock_of (date_in (kept k d)) (pick b d (template_of k)) d.zone) z
    clock true = refl
    clock false = refl

-- a dateTime has every part: each record within the bounds is one
pub date_time_ok : (d : DateTime) → ok_date_time d ≡ true → ok_value (VV.Moment KV.DateTime d) ≡ true
unfolding is_moment has
date_time_ok d o = moment_ok KV.DateTime d refl o (kept_of_kind KV.DateTime d refl)

-- kinds with one number are one
pub same_kind_lem : (j k : Kind) → same_kind j k ≡ true → j ≡ k
same_kind_lem j k e = sym (numbered j) ∙ ap kind_at (eqb-true (kind_number j) (kind_number k) e) ∙ numbered k

-- what `==` and `!=` of kinds say: whether their numbers are one
told : (k : Kind) → tag_of the_type k ≡ kind_number k
told KV.Date = refl
told KV.Time = refl
told KV.DateTime = refl
told KV.DayTimeDuration = refl
told KV.YearMonthDuration = refl

pub kinds_same : (j k : Kind) {r : Bool} → r ≡ sameb the_type j k → r ≡ same_kind j k
kinds_same j k e = e ∙ (λ i. eqb (told j i) (told k i))

module _ (j k : Kind) {r : Bool} (e : r ≡ not (sameb the_type j k)) where
  differ : r ≡ not (same_kind j k)
  differ = e ∙ (λ i. not (eqb (told j i) (told k i)))

  pub kinds_apart : r ≡ true → same_kind j k ≡ false
  kinds_apart t = not-true (same_kind j k) (sym differ ∙ t)

  pub kinds_one : r ≡ false → same_kind j k ≡ true
  kinds_one f = not-false (same_kind j k) (sym differ ∙ f)

-- a moment's kind is none of a duration's
pub moment_apart : (k j : Kind) → is_moment k ≡ true → is_moment j ≡ false → same_kind k j ≡ false
moment_apart k j m n = go (same_kind k j) refl
  where
    go : (b : Bool) → same_kind k j ≡ b → b ≡ false
    go true e = absurd (never (sym n ∙ ap is_moment (sym (same_kind_lem k j e)) ∙ m))
    go false e = refl

pub apart_moment : (j k : Kind) → is_moment j ≡ false → is_moment k ≡ true → same_kind j k ≡ false
apart_moment j k n m = go (same_kind j k) refl
  where
    go : (b : Bool) → same_kind j k ≡ b → b ≡ false
    go true e = absurd (never (sym n ∙ ap is_moment (same_kind_lem j k e) ∙ m))
    go false e = refl

-- and a kind is its own
pub own_kind : (k : Kind) → same_kind k k ≡ true
own_kind k = eq-eqb (kind_number k) (kind_number k) refl
