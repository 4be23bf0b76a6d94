-- The numbers that sums, differences and products refuse with: 16, 9 and 4.
use mathlib.Core.Path.{◌≡◌, refl}
use mathlib.Core.Bool.{Bool, true}
use mathlib.Core.List.{List, [], ◌∷◌}
use Prim.Native.Nat.{ℕ, ◌+◌, ◌-◌, ◌/◌}
use lib.Dec.{leb}
use Rattle.basis.specs.Choice.{pick, both, among}
use Rattle.basis.specs.Answer.{Reason, Answer, gives, refuses_for, refuses}
use Rattle.calendar.specs.Calendar.{month_count}
use Rattle.value.specs.Bounds.{min_year, max_year}
use Rattle.value.specs.Refusals.{outside, wrong_kind, beyond_result}
use Rattle.value.specs.Durations.{less_ticks, less_months}
use Rattle.value.specs.Values.{ok_offset, ok_day_time, ok_year_month}
use Rattle.value.specs.Rows.{same_kind, is_dated, is_clocked}
use Rattle.value.specs.Kinds.{ok_value}
use Rattle.value_instants.specs.Ticks.{local_of, instant_of}
use Rattle.value.specs.declared.Offset.{Offset}
use Rattle.value.specs.declared.DateTime.{DateTime}
use Rattle.value.specs.declared.Kind.{Kind}
use Rattle.value.specs.declared.Value.{Value}
use Rattle.value.specs.declared.Value.TheVariants.{Moment, DayTime, YearMonth}
use Rattle.value.proofs.Numbers.{only, only_either, only_refused}
use Rattle.operation_quantities.specs.Results.{in_ticks, in_months}
use Rattle.operation_shifting.specs.Shifts.{month_of, in_month, moved_to, moved, wrapped, shifted}
use Rattle.operation_quantities.proofs.Numbers.{placed_numbers}
use Rattle.operation_arithmetic.specs.Sums.{opposite, opposite_months, sum_of, plus_of, less_moment, difference_in, minus_in, minus_for}
use Rattle.operation_arithmetic.specs.Products.{max_factor, product_of, times_of}

abbrev pub result_numbers : List ℕ
result_numbers = outside ∷ wrong_kind ∷ beyond_result ∷ []

abbrev Fits : Answer Value → Type 0
Fits x = only result_numbers x ≡ true

either : (b : Bool) (x y : Answer Value) → Fits x → Fits y → Fits (pick b x y)
either b x y p q = only_either result_numbers b x y p q

ticks_numbers : (p q : ℕ) → Fits (in_ticks p q)
unfolding in_ticks
ticks_numbers p q = either (ok_day_time (less_ticks p q)) _ _ refl refl

months_numbers : (p q : ℕ) → Fits (in_months p q)
unfolding in_months
months_numbers p q = either (ok_year_month (less_months p q)) _ _ refl refl

shifted_numbers : (k : Kind) (d : DateTime) (p q : ℕ) → Fits (shifted k d p q)
unfolding shifted
shifted_numbers k d p q =
    either (is_dated k) _ _ (placed_numbers result_numbers refl k (local_of d + p - q) d.zone)
    (either (is_clocked k) (gives (Moment k (wrapped d p q))) (refuses wrong_kind) refl refl)

moved_to_numbers : (k : Kind) (d : DateTime) (t : ℕ) → Fits (moved_to k d t)
unfolding moved_to
moved_to_numbers k d t =
    either (both (leb min_year (t / month_count)) (leb (t / month_count) max_year)) (gives (Moment k (in_month d t))) (refuses beyond_result) refl refl

moved_numbers : (k : Kind) (d : DateTime) (p q : ℕ) → Fits (moved k d p q)
unfolding moved
moved_numbers k d p q = either (is_dated k) (moved_to k d (month_of d + p - q)) (refuses wrong_kind) (moved_to_numbers k d (month_of d + p - q)) refl

sum_numbers : (x y : Value) → Fits (sum_of x y)
unfolding sum_of
sum_numbers (Moment k d) (Moment j e) = refl
sum_numbers (Moment k d) (DayTime t) = shifted_numbers k d _ _
sum_numbers (Moment k d) (YearMonth m) = moved_numbers k d _ _
sum_numbers (DayTime t) (Moment k d) = shifted_numbers k d _ _
sum_numbers (DayTime t) (DayTime s) = ticks_numbers _ _
sum_numbers (DayTime t) (YearMonth m) = refl
sum_numbers (YearMonth m) (Moment k d) = moved_numbers k d _ _
sum_numbers (YearMonth m) (DayTime t) = refl
sum_numbers (YearMonth m) (YearMonth n) = months_numbers _ _

less_numbers : (o : Offset) (x : Value) (k : Kind) (e : DateTime) → Fits (less_moment o x k e)
unfolding less_moment
less_numbers o (Moment j d) k e = either (same_kind j k) _ _ (ticks_numbers (instant_of o d) (instant_of o e)) refl
less_numbers o (DayTime t) k e = refl
less_numbers o (YearMonth m) k e = refl

difference_numbers : (o : Offset) (x y : Value) → Fits (difference_in o x y)
unfolding difference_in
difference_numbers o x (Moment k e) = less_numbers o x k e
difference_numbers o x (DayTime t) = sum_numbers x (DayTime (opposite t))
difference_numbers o x (YearMonth m) = sum_numbers x (YearMonth (opposite_months m))

product_numbers : (x : Value) (negative : Bool) (n : ℕ) → Fits (product_of x negative n)
unfolding product_of
product_numbers (Moment k d) negative n = refl
product_numbers (DayTime t) negative n = either negative _ _ (ticks_numbers _ _) (ticks_numbers _ _)
product_numbers (YearMonth m) negative n = either negative _ _ (months_numbers _ _) (months_numbers _ _)

pub plus_refuses : (a b : Value) (r : Reason) → plus_of a b ≡ refuses_for r → among result_numbers r.number ≡ true
unfolding plus_of
plus_refuses a b r e =
    only_refused result_numbers (plus_of a b) r (either (both (ok_value a) (ok_value b)) _ _ (sum_numbers a b) refl) e

minus_numbers : (o : Offset) (a b : Value) → Fits (minus_in o a b)
unfolding minus_in
minus_numbers o a b = either (both (ok_value a) (ok_value b)) _ _ (difference_numbers o a b) refl

pub minus_refuses : (o : Offset) (a b : Value) (r : Reason) → minus_in o a b ≡ refuses_for r → among result_numbers r.number ≡ true
minus_refuses o a b r e = only_refused result_numbers (minus_in o a b) r (minus_numbers o a b) e

pub minus_for_refuses : (zone : Offset) (a b : Value) (r : Reason) → minus_for zone a b ≡ refuses_for r → among result_numbers r.number ≡ true
unfolding minus_for
minus_for_refuses zone a b r e =
    only_refused result_numbers (minus_for zone a b) r (either (ok_offset zone) (minus_in zone a b) (refuses outside) (minus_numbers zone a b) refl) e

pub times_refuses : (a : Value) (negative : Bool) (m : ℕ) (r : Reason) → times_of a negative m ≡ refuses_for r → among result_numbers r.number ≡ true
unfolding times_of
times_refuses a negative m r e =
    only_refused result_numbers (times_of a negative m) r
    (either (both (ok_value a) (leb m max_factor)) _ _ (product_numbers a negative m) refl)
    e
