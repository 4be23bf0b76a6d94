-- Where the kinds fit, each operation on valid values, in a zone within its bounds, gives a valid value of the settled kind, or 4; a
-- comparison gives a truth value. So no 9 and no 16 can come of parts whose sorts fit. Where they clash, it is refused with 9.
use Rattle.std.specs.Prelude.{None, Option, Some}
use mathlib.Core.Path.{◌≡◌, refl, sym, subst}
use mathlib.Core.Bool.{Bool, true, false}
use Prim.Native.Nat.{ℕ, ◌+◌, ◌-◌, ◌/◌, ◌≤◌}
use lib.Dec.{leb}
use borrow.Author.Tests.{le-leb}
use Rattle.basis.specs.Choice.{pick, both, every}
use Rattle.basis.specs.Answer.{Answer, gives, refuses_for, refuses}
use Rattle.calendar.specs.Calendar.{month_count}
use Rattle.value.specs.Bounds.{min_year, max_year}
use Rattle.value.specs.Refusals.{wrong_kind}
use Rattle.value.specs.Values.{ok_offset, ok_day_time, ok_year_month}
use Rattle.value.specs.Durations.{less_ticks, less_months}
use Rattle.value.specs.Rows.{same_kind, is_moment, has, is_dated, is_clocked}
use Rattle.value.specs.Kinds.{kind_of, ok_value}
use Rattle.value_instants.specs.Ticks.{placed_at, local_of, instant_of}
use Rattle.value.specs.declared.Offset.{Offset}
use Rattle.value.specs.declared.DateTime.{DateTime}
use Rattle.value.specs.declared.Kind.{Kind}
use Rattle.value.specs.declared.Kind.TheVariants as K
use Rattle.value.specs.declared.Value.{Value}
use Rattle.value.specs.declared.Value.TheVariants as V'
use Rattle.value.proofs.KindParts.{moment_good}
use Rattle.value.proofs.RowLaws.{moment_apart, apart_moment}
use Rattle.operation_quantities.specs.Results.{in_ticks, in_months, of_placed, at_ticks}
use Rattle.operation_shifting.specs.Shifts.{month_of, moved_to, moved, wrapped, shifted}
use Rattle.operation_ordering.specs.Order.{order_in, order_for, value_order}
use Rattle.operation_arithmetic.specs.Sums.{sum_of, plus_of, less_moment, difference_in, minus_in, minus_for}
use Rattle.operation_ordering.proofs.OrderLaws.{order_in_zone}
use Rattle.operation_arithmetic.proofs.Differences.{minus_in_zone}
use Rattle.operation_arithmetic.specs.Products.{product_of, times_of, max_factor}
use Rattle.operation_casting.specs.Casts.{casts_to, cast_of}
use Rattle.operation_casting.proofs.CastLaws.{cast_kind}
use Rattle.condition_sorts.specs.Sorts.{takes, added_kinds, less_kinds, sort_times}
use Rattle.condition_sorts.specs.declared.Sort.{Sort}
use Rattle.condition_sorts.specs.declared.Sort.TheVariants as S

-- a value of a kind, or 4
abbrev pub Fits : Kind → Answer Value → Type 0
Fits k (gives v) = kind_of v ≡ k
Fits k (refuses_for r) = r.number ≡ 4

-- the same, by the sort that the kinds settle, which of a sum, difference or product is no truth value; 9 where they clash
abbrev pub FitsSort : Sort → Answer Value → Type 0
FitsSort S.Clash a = a ≡ refuses wrong_kind
FitsSort S.Truth a = ⊥
FitsSort (S.Of k) a = Fits k a

fits_either : (k : Kind) (b : Bool) (x y : Answer Value) → Fits k x → Fits k y → Fits k (pick b x y)
fits_either k true x y p q = p
fits_either k false x y p q = q

ticks_fit : (p q : ℕ) → Fits K.DayTimeDuration (in_ticks p q)
unfolding in_ticks
ticks_fit p q = fits_either K.DayTimeDuration (ok_day_time (less_ticks p q)) _ _ refl refl

months_fit : (p q : ℕ) → Fits K.YearMonthDuration (in_months p q)
unfolding in_months
months_fit p q = fits_either K.YearMonthDuration (ok_year_month (less_months p q)) _ _ refl refl

day_time_none : is_moment K.DayTimeDuration ≡ false
unfolding is_moment
day_time_none = refl

year_month_none : is_moment K.YearMonthDuration ≡ false
unfolding is_moment
year_month_none = refl

-- a moment and a duration: of the moment's kind where that takes the duration, 9 where it does not
module _ (k : Kind) where
  placed_fit : (p : Option DateTime) → Fits k (of_placed k p)
  placed_fit (Some d) = refl
  placed_fit None = refl

  shifted_fits : (d : DateTime) (p q : ℕ) → FitsSort (pick (takes k K.DayTimeDuration) (S.Of k) S.Clash) (shifted k d p q)
  unfolding takes shifted at_ticks
  shifted_fits d p q = go (is_dated k) (is_clocked k)
    where
      go : (a b : Bool) → FitsSort (pick (pick a true b) (S.Of k) S.Clash) (pick a (of_placed k (placed_at (local_of d + p - q) d.zone)) (pick b (gives (V'.Moment k (wrapped d p q))) (refuses wrong_kind)))
      go true b = placed_fit (placed_at (local_of d + p - q) d.zone)
      go false true = refl
      go false false = refl

  in_month_fit : (d : DateTime) (t : ℕ) → Fits k (moved_to k d t)
  unfolding moved_to
  in_month_fit d t = fits_either k (both (leb min_year (t / month_count)) (leb (t / month_count) max_year)) _ _ refl refl

  moved_fits : (d : DateTime) (p q : ℕ) → FitsSort (pick (takes k K.YearMonthDuration) (S.Of k) S.Clash) (moved k d p q)
  unfolding takes moved
  moved_fits d p q = go (is_dated k)
    where
      go : (a : Bool) → FitsSort (pick a (S.Of k) S.Clash) (pick a (moved_to k d (month_of d + p - q)) (refuses wrong_kind))
      go true = in_month_fit d (month_of d + p - q)
      go false = refl

-- no kind takes a moment
takes_none : (j k : Kind) → is_moment k ≡ true → takes j k ≡ false
unfolding takes
takes_none j k m = rw (moment_apart k K.DayTimeDuration m day_time_none, moment_apart k K.YearMonthDuration m year_month_none) refl

-- what is settled of a moment's kind and a duration's
module _ (k j : Kind) (m : is_moment k ≡ true) (n : is_moment j ≡ false) where
  added_right : pick (takes k j) (S.Of k) S.Clash ≡ added_kinds k j
  unfolding added_kinds
  added_right = rw (takes_none j k m, m) refl

  added_left : pick (takes k j) (S.Of k) S.Clash ≡ added_kinds j k
  unfolding added_kinds
  added_left = rw (takes_none j k m, n, apart_moment j k n m) refl

  less_right : pick (takes k j) (S.Of k) S.Clash ≡ less_kinds k j
  unfolding less_kinds
  less_right = rw (moment_apart k j m n) refl

  less_left : S.Clash ≡ less_kinds j k
  unfolding less_kinds
  less_left = rw (takes_none j k m, apart_moment j k n m) refl

settled : (a : Answer Value) (x : Sort) {y : Sort} → x ≡ y → FitsSort x a → FitsSort y a
settled a x e f = subst (λ (z : Sort). FitsSort z a) e f

-- two moments: never added, and subtracted where they are of one kind
module _ (j k : Kind) (m : is_moment j ≡ true) (n : is_moment k ≡ true) where
  added_moments : FitsSort (added_kinds j k) (refuses wrong_kind)
  unfolding added_kinds
  added_moments = settled (refuses wrong_kind) S.Clash {y = added_kinds j k} (rw (takes_none j k n, takes_none k j m, m) refl) refl

  less_moments : (o : Offset) (d e : DateTime) → FitsSort (less_kinds j k) (less_moment o (V'.Moment j d) k e)
  unfolding less_kinds less_moment
  less_moments o d e = go (same_kind j k)
    where
      go : (b : Bool) → FitsSort (pick (takes j k) (S.Of j) (pick b (pick (is_moment j) (S.Of K.DayTimeDuration) (S.Of j)) S.Clash)) (pick b (in_ticks (instant_of o d) (instant_of o e)) (refuses wrong_kind))
      go true = settled (in_ticks (instant_of o d) (instant_of o e)) (S.Of K.DayTimeDuration) {y = pick (takes j k) (S.Of j) (pick (is_moment j) (S.Of K.DayTimeDuration) (S.Of j))} (rw (takes_none j k n, m) refl) (ticks_fit _ _)
      go false = settled (refuses wrong_kind) S.Clash {y = pick (takes j k) (S.Of j) S.Clash} (rw (takes_none j k n) refl) refl

-- a moment and a duration added, either way round; durations of one kind
sum_fits : (a b : Value) → ok_value a ≡ true → ok_value b ≡ true → FitsSort (added_kinds (kind_of a) (kind_of b)) (sum_of a b)
unfolding added_kinds takes is_moment is_dated is_clocked has every both sum_of
sum_fits (V'.Moment j d) (V'.Moment k e) p q = added_moments j k (moment_good _ p j d refl).0 (moment_good _ q k e refl).0
sum_fits (V'.Moment k d) (V'.DayTime t) p q = settled (sum_of (V'.Moment k d) (V'.DayTime t)) (pick (takes k K.DayTimeDuration) (S.Of k) S.Clash) (added_right k K.DayTimeDuration (moment_good _ p k d refl).0 day_time_none) (shifted_fits k d _ _)
sum_fits (V'.Moment k d) (V'.YearMonth m) p q = settled (sum_of (V'.Moment k d) (V'.YearMonth m)) (pick (takes k K.YearMonthDuration) (S.Of k) S.Clash) (added_right k K.YearMonthDuration (moment_good _ p k d refl).0 year_month_none) (moved_fits k d _ _)
sum_fits (V'.DayTime t) (V'.Moment k d) p q = settled (sum_of (V'.DayTime t) (V'.Moment k d)) (pick (takes k K.DayTimeDuration) (S.Of k) S.Clash) (added_left k K.DayTimeDuration (moment_good _ q k d refl).0 day_time_none) (shifted_fits k d _ _)
sum_fits (V'.DayTime t) (V'.DayTime u) p q = ticks_fit _ _
sum_fits (V'.DayTime t) (V'.YearMonth m) p q = refl
sum_fits (V'.YearMonth m) (V'.Moment k d) p q = settled (sum_of (V'.YearMonth m) (V'.Moment k d)) (pick (takes k K.YearMonthDuration) (S.Of k) S.Clash) (added_left k K.YearMonthDuration (moment_good _ q k d refl).0 year_month_none) (moved_fits k d _ _)
sum_fits (V'.YearMonth m) (V'.DayTime t) p q = refl
sum_fits (V'.YearMonth m) (V'.YearMonth n) p q = months_fit _ _

difference_fits : (o : Offset) (a b : Value) → ok_value a ≡ true → ok_value b ≡ true → FitsSort (less_kinds (kind_of a) (kind_of b)) (difference_in o a b)
unfolding less_kinds takes is_moment is_dated is_clocked has every both difference_in less_moment sum_of
difference_fits o (V'.Moment j d) (V'.Moment k e) p q = less_moments j k (moment_good _ p j d refl).0 (moment_good _ q k e refl).0 o d e
difference_fits o (V'.Moment k d) (V'.DayTime t) p q = settled (difference_in o (V'.Moment k d) (V'.DayTime t)) (pick (takes k K.DayTimeDuration) (S.Of k) S.Clash) (less_right k K.DayTimeDuration (moment_good _ p k d refl).0 day_time_none) (shifted_fits k d _ _)
difference_fits o (V'.Moment k d) (V'.YearMonth m) p q = settled (difference_in o (V'.Moment k d) (V'.YearMonth m)) (pick (takes k K.YearMonthDuration) (S.Of k) S.Clash) (less_right k K.YearMonthDuration (moment_good _ p k d refl).0 year_month_none) (moved_fits k d _ _)
difference_fits o (V'.DayTime t) (V'.Moment k d) p q = settled (refuses wrong_kind) S.Clash (less_left k K.DayTimeDuration (moment_good _ q k d refl).0 day_time_none) refl
difference_fits o (V'.DayTime t) (V'.DayTime u) p q = ticks_fit _ _
difference_fits o (V'.DayTime t) (V'.YearMonth m) p q = refl
difference_fits o (V'.YearMonth m) (V'.Moment k d) p q = settled (refuses wrong_kind) S.Clash (less_left k K.YearMonthDuration (moment_good _ q k d refl).0 year_month_none) refl
difference_fits o (V'.YearMonth m) (V'.DayTime t) p q = refl
difference_fits o (V'.YearMonth m) (V'.YearMonth n) p q = months_fit _ _

product_fits : (a : Value) (b : Bool) (n : ℕ) → ok_value a ≡ true → FitsSort (sort_times (S.Of (kind_of a))) (product_of a b n)
unfolding product_of is_moment
product_fits (V'.Moment k d) b n p = settled (refuses wrong_kind) S.Clash (λ i. pick (sym (moment_good _ p k d refl).0 i) S.Clash (S.Of k)) refl
product_fits (V'.DayTime t) b n p = fits_either K.DayTimeDuration b _ _ (ticks_fit _ _) (ticks_fit _ _)
product_fits (V'.YearMonth m) b n p = fits_either K.YearMonthDuration b _ _ (months_fit _ _) (months_fit _ _)

module _ (a : Value) (p : ok_value a ≡ true) where
  module _ (b : Value) (q : ok_value b ≡ true) where
    pub plus_settled : FitsSort (added_kinds (kind_of a) (kind_of b)) (plus_of a b)
    unfolding plus_of both
    plus_settled = rw (p, q) (sum_fits a b p q)

    pub minus_settled : (zone : Offset) → ok_offset zone ≡ true → FitsSort (less_kinds (kind_of a) (kind_of b)) (minus_for zone a b)
    unfolding minus_in both
    minus_settled zone g = rw (minus_in_zone zone a b g, p, q) (difference_fits zone a b p q)

    pub order_settled : (zone : Offset) → ok_offset zone ≡ true → same_kind (kind_of a) (kind_of b) ≡ true
        → order_for zone a b ≡ gives (value_order zone a b)
    unfolding order_in both
    order_settled zone g h = rw (order_in_zone zone a b g, p, q, h)

  pub times_settled : (b : Bool) (n : ℕ) → n ≤ max_factor → FitsSort (sort_times (S.Of (kind_of a))) (times_of a b n)
  unfolding times_of both
  times_settled b n h = rw (p, le-leb n max_factor h) (product_fits a b n p)

  pub cast_settled : (k : Kind) → casts_to (kind_of a) k ≡ true → Fits k (cast_of a k)
  unfolding cast_of
  cast_settled k h = rw (p, h) (cast_kind a k h)
