-- The numbers that each call refuses with: comparing, casting and removing a zone 16 and 9; adjustment 16, 9, 5 and 4.
-- (Those of plus, minus and times are in crate `operation_arithmetic`.)
use Rattle.std.specs.Prelude.{None, Option, Some}
use mathlib.Core.Path.{◌≡◌, refl}
use mathlib.Core.Bool.{true}
use mathlib.Core.List.{List, [], ◌∷◌}
use Prim.Native.Nat.{ℕ}
use Rattle.basis.specs.Choice.{pick, both, among}
use Rattle.basis.specs.Answer.{Reason, gives, refuses_for, refuses}
use Rattle.value.specs.Refusals.{outside, wrong_kind, bad_zone, beyond_result}
use Rattle.value.specs.Values.{ok_offset}
use Rattle.value.specs.Rows.{same_kind}
use Rattle.value.specs.Kinds.{kind_of, ok_value}
use Rattle.value_instants.specs.Ticks.{local_of, instant_at}
use Rattle.value.specs.declared.Offset.{Offset}
use Rattle.value.specs.declared.DateTime.{DateTime}
use Rattle.value.specs.declared.Kind.{Kind}
use Rattle.value.specs.declared.Value.{Value}
use Rattle.value.specs.declared.Value.TheVariants.{Moment, DayTime, YearMonth}
use Rattle.value.proofs.Numbers.{only, only_either, only_refused}
use Rattle.operation_quantities.proofs.Numbers.{placed_numbers}
use Rattle.operation_ordering.specs.Order.{value_order, order_in, order_for}
use Rattle.operation_casting.specs.Casts.{casts_to, cast_to, cast_of}
use Rattle.operation_adjusting.specs.Adjustment.{is_zone, zone_of, local_at, adjusted_from, moment_to, value_to, adjust_of, without_zone, unzone_of}

abbrev pub kind_numbers : List ℕ
kind_numbers = outside ∷ wrong_kind ∷ []

abbrev pub adjust_numbers : List ℕ
adjust_numbers = outside ∷ wrong_kind ∷ bad_zone ∷ beyond_result ∷ []

order_numbers : (o : Offset) (a b : Value) → only kind_numbers (order_in o a b) ≡ true
unfolding order_in
order_numbers o a b =
    only_either kind_numbers (both (ok_value a) (ok_value b))
    (pick (same_kind (kind_of a) (kind_of b)) (gives (value_order o a b)) (refuses wrong_kind)) (refuses outside)
    (only_either kind_numbers (same_kind (kind_of a) (kind_of b)) (gives (value_order o a b)) (refuses wrong_kind) refl refl) refl

pub compare_refuses : (o : Offset) (a b : Value) (r : Reason) → order_in o a b ≡ refuses_for r → among kind_numbers r.number ≡ true
compare_refuses o a b r e = only_refused kind_numbers (order_in o a b) r (order_numbers o a b) e

pub compare_for_refuses : (zone : Offset) (a b : Value) (r : Reason) → order_for zone a b ≡ refuses_for r → among kind_numbers r.number ≡ true
unfolding order_for
compare_for_refuses zone a b r e =
    only_refused kind_numbers (order_for zone a b) r
    (only_either kind_numbers (ok_offset zone) (order_in zone a b) (refuses outside) (order_numbers zone a b) refl)
    e

pub cast_refuses : (a : Value) (k : Kind) (r : Reason) → cast_of a k ≡ refuses_for r → among kind_numbers r.number ≡ true
unfolding cast_of
cast_refuses a k r e =
    only_refused kind_numbers (cast_of a k) r
    (only_either kind_numbers (ok_value a) (pick (casts_to (kind_of a) k) (gives (cast_to k a)) (refuses wrong_kind)) (refuses outside)
    (only_either kind_numbers (casts_to (kind_of a) k) (gives (cast_to k a)) (refuses wrong_kind) refl refl) refl)
    e

without_numbers : (x : Value) → only kind_numbers (without_zone x) ≡ true
unfolding without_zone
without_numbers (Moment k d) = refl
without_numbers (DayTime t) = refl
without_numbers (YearMonth m) = refl

pub unzone_refuses : (a : Value) (r : Reason) → unzone_of a ≡ refuses_for r → among kind_numbers r.number ≡ true
unfolding unzone_of
unzone_refuses a r e =
    only_refused kind_numbers (unzone_of a) r
    (only_either kind_numbers (ok_value a) (without_zone a) (refuses outside) (without_numbers a) refl)
    e

adjusted_numbers : (k : Kind) (d : DateTime) (x : Option Offset) (z : Offset) → only adjust_numbers (adjusted_from k d x z) ≡ true
unfolding adjusted_from
adjusted_numbers k d None z = refl
adjusted_numbers k d (Some w) z = placed_numbers adjust_numbers refl k (local_at (instant_at (local_of d) w) z) (Some z)

moment_numbers : (k : Kind) (d : DateTime) (y : Value) → only adjust_numbers (moment_to k d y) ≡ true
unfolding moment_to
moment_numbers k d (Moment j e) = refl
moment_numbers k d (DayTime t) =
    only_either adjust_numbers (is_zone t) (adjusted_from k d d.zone (zone_of t)) (refuses bad_zone) (adjusted_numbers k d d.zone (zone_of t)) refl
moment_numbers k d (YearMonth m) = refl

value_numbers : (x y : Value) → only adjust_numbers (value_to x y) ≡ true
unfolding value_to
value_numbers (Moment k d) y = moment_numbers k d y
value_numbers (DayTime t) y = refl
value_numbers (YearMonth m) y = refl

pub adjust_refuses : (a z : Value) (r : Reason) → adjust_of a z ≡ refuses_for r → among adjust_numbers r.number ≡ true
unfolding adjust_of
adjust_refuses a z r e =
    only_refused adjust_numbers (adjust_of a z) r
    (only_either adjust_numbers (both (ok_value a) (ok_value z)) (value_to a z) (refuses outside)
    (value_numbers a z) refl)
    e
