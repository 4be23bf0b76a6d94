-- Every value that a cast or an adjustment answers is within its kind's bounds.
use Rattle.std.specs.Prelude.{None, Option, Some}
use mathlib.Core.Path.{◌≡◌, refl}
use mathlib.Core.Bool.{true}
use Rattle.basis.specs.Choice.{pick, both}
use Rattle.basis.specs.Answer.{gives, refuses}
use Rattle.basis.proofs.Tests.{both_left, both_right}
use Rattle.value.specs.Refusals.{outside, wrong_kind, bad_zone}
use Rattle.value.specs.Values.{date_in, ok_date_time, ok_offset, ok_zone}
use Rattle.value.specs.Kinds.{kind_of, ok_value}
use Rattle.value.specs.Carried.{valid}
use Rattle.value_instants.specs.Ticks.{local_of, instant_at}
use Rattle.value.specs.declared.Offset.{Offset}
use Rattle.value.specs.declared.DateTime.{DateTime}
use Rattle.value.specs.declared.Kind.{Kind}
use Rattle.value.specs.declared.Value.{Value}
use Rattle.value.specs.declared.Value.TheVariants.{Moment, DayTime, YearMonth}
use Rattle.value.proofs.ClockLaws.{time_part_kept}
use Rattle.value.proofs.Good.{good, record_ok}
use Rattle.value.proofs.KindParts.{moment_good, moment_ok}
use Rattle.value.proofs.RowLaws.{of_kind_zoned}
use Rattle.operation_quantities.proofs.Given.{valid_given, valid_pick, valid_test}
use Rattle.operation_shifting.proofs.Valid.{placed_valid}
use Rattle.operation_casting.specs.Casts.{casts_to, cast_to, cast_of}
use Rattle.operation_casting.proofs.CastLaws.{cast_to_valid}
use Rattle.operation_adjusting.specs.Adjustment.{is_zone, zone_of, local_at, with_zone, adjusted_from, moment_to, value_to, adjust_of, without_zone, unzone_of}
use Rattle.operation_adjusting.proofs.Zones.{zone_ok}

-- casts
pub cast_valid : (a : Value) (k : Kind) → valid (cast_of a k) ≡ true
unfolding cast_of
cast_valid a k =
    valid_pick (ok_value a) (pick (casts_to (kind_of a) k) (gives (cast_to k a)) (refuses wrong_kind)) (refuses outside)
    (λ g. valid_test (casts_to (kind_of a) k) (cast_to k a) wrong_kind (λ c. cast_to_valid a k g c)) refl

-- adjustment
zoned_record : (d : DateTime) (z : Option Offset) → ok_date_time d ≡ true → ok_zone z ≡ true → ok_date_time (with_zone d z) ≡ true
zoned_record d z g h =
    let r = good d g in
    record_ok (with_zone d z) (record { day = r.day; time = time_part_kept (date_in d) d z r.time; zone = h })

zoned_valid : (k : Kind) (d : DateTime) (z : Option Offset) → ok_value (Moment k d) ≡ true → ok_zone z ≡ true → ok_value (Moment k (with_zone d z)) ≡ true
zoned_valid k d z g h =
    let own = moment_good (Moment k d) g k d refl in
    moment_ok k (with_zone d z) own.0 (zoned_record d z own.1 h) (of_kind_zoned k d z own.2)

adjusted_valid : (k : Kind) (d : DateTime) (x : Option Offset) (z : Offset) → ok_value (Moment k d) ≡ true → ok_offset z ≡ true
    → valid (adjusted_from k d x z) ≡ true
unfolding adjusted_from ok_zone
adjusted_valid k d None z g h = zoned_valid k d (Some z) g h
adjusted_valid k d (Some w) z g h = placed_valid k (local_at (instant_at (local_of d) w) z) (Some z) (moment_good (Moment k d) g k d refl).0 h

moment_to_valid : (k : Kind) (d : DateTime) (y : Value) → ok_value (Moment k d) ≡ true → ok_value y ≡ true
    → valid (moment_to k d y) ≡ true
unfolding moment_to ok_value
moment_to_valid k d (Moment j e) gx gy = refl
moment_to_valid k d (DayTime t) gx gy =
    valid_pick (is_zone t) (adjusted_from k d d.zone (zone_of t)) (refuses bad_zone)
    (λ e. adjusted_valid k d d.zone (zone_of t) gx (zone_ok t gy e)) refl
moment_to_valid k d (YearMonth m) gx gy = refl

value_to_valid : (x y : Value) → ok_value x ≡ true → ok_value y ≡ true → valid (value_to x y) ≡ true
unfolding value_to
value_to_valid (Moment k d) y gx gy = moment_to_valid k d y gx gy
value_to_valid (DayTime t) y gx gy = refl
value_to_valid (YearMonth m) y gx gy = refl

pub adjust_valid : (a z : Value) → valid (adjust_of a z) ≡ true
unfolding adjust_of
adjust_valid a z =
    valid_pick (both (ok_value a) (ok_value z)) (value_to a z) (refuses outside)
    (λ e. value_to_valid a z (both_left _ _ e) (both_right _ _ e)) refl

without_valid : (x : Value) → ok_value x ≡ true → valid (without_zone x) ≡ true
unfolding without_zone ok_zone
without_valid (Moment k d) g = zoned_valid k d None g refl
without_valid (DayTime t) g = refl
without_valid (YearMonth m) g = refl

pub unzone_valid : (a : Value) → valid (unzone_of a) ≡ true
unfolding unzone_of
unzone_valid a =
    valid_pick (ok_value a) (without_zone a) (refuses outside) (λ g. without_valid a g) refl

-- so a value that is answered is within the bounds
pub cast_within : (a : Value) (k : Kind) (v : Value) → cast_of a k ≡ gives v → ok_value v ≡ true
cast_within a k v e = valid_given (cast_of a k) v (cast_valid a k) e

pub adjust_within : (a z v : Value) → adjust_of a z ≡ gives v → ok_value v ≡ true
adjust_within a z v e = valid_given (adjust_of a z) v (adjust_valid a z) e

pub unzone_within : (a v : Value) → unzone_of a ≡ gives v → ok_value v ≡ true
unzone_within a v e = valid_given (unzone_of a) v (unzone_valid a) e
