-- The zone that a dayTimeDuration gives is within the bounds, and the local time of an instant there.
use Rattle.std.specs.Prelude.{None, Option, Some}
use mathlib.Core.Path.{◌≡◌, refl, ap, sym, ◌∙◌}
use mathlib.Core.Bool.{Bool, true, false}
use Prim.Native.Nat.{ℕ, ◌+◌, ◌-◌, ◌*◌, ◌/◌, ◌%◌, ◌≤◌, ◌<◌, ◌^◌}
use native.Mathlib.Omega.{arith}
use lib.Dec.{eqb, leb}
use borrow.Author.Tests.{leb-true, le-leb, eqb-true, eq-eqb, ne_eqb, ltb-true}
use Rattle.basis.specs.Choice.{pick, both, every}
use Rattle.basis.specs.Answer.{gives}
use Rattle.basis.proofs.Tests.{both_left, both_right, both_true}
use Rattle.value.specs.Bounds.{max_year, second_ticks, max_zone, max_day_time, minute_ticks, day_ticks}
use Rattle.value.specs.Clocks.{ticks_in}
use Rattle.value.specs.Values.{ok_signed, ok_day_time, ok_offset, ok_zone, ok_date_time}
use Rattle.value_instants.specs.Ticks.{local_of, instant_at}
use Rattle.value.specs.Carried.{ticks_of, span_of}
use Rattle.value.specs.declared.Offset.{Offset}
use Rattle.value.specs.declared.Offset.TheVariants.{East, West}
use Rattle.value.specs.declared.DateTime.{DateTime}
use Rattle.value.specs.declared.DayTime as D
use Rattle.value.specs.declared.Kind.{Kind}
use Rattle.value.specs.declared.Value.TheVariants.{Moment}
use Rattle.value.specs.declared.Span.{Span}
use Rattle.value.proofs.ClockLaws.{day_time_signed}
use Rattle.value.proofs.Good.{good}
use Rattle.value_instants.proofs.Within.{timed, east_to, west_to}
use Rattle.value.proofs.Spans.{span_is}
use Rattle.operation_quantities.specs.Results.{at_ticks}
use Rattle.operation_adjusting.specs.Adjustment.{is_zone, zone_of, local_at, with_zone, adjusted_from}
use Rattle.operation_quantities.proofs.Spanned.{ticks_of_lem, part_of, seconds_of}
use Rattle.operation_shifting.proofs.Reach.{local_from}

pub zone_minutes_lem : (z : D.DayTime) → is_zone z ≡ true → ticks_in z / minute_ticks ≤ max_zone
unfolding is_zone
zone_minutes_lem z e = leb-true _ _ (both_right _ _ e)

zone_whole : (z : D.DayTime) → is_zone z ≡ true → ticks_in z % minute_ticks ≡ 0
unfolding is_zone
zone_whole z e = eqb-true _ _ (both_left _ _ e)

-- the same, through the span that the code has in hand
module _ (z : D.DayTime) (s : Span) (e : s ≡ span_of (ticks_in z)) where
  pub minutes_of : s.seconds / 60 ≡ ticks_in z / minute_ticks
  minutes_of = omega (arith, seconds_of s (ticks_in z) e)

  part_is : s.part ≡ ticks_in z % second_ticks
  part_is = ap (λ (x : Span). x.part) e

  not_whole : (ticks_in z % minute_ticks ≡ 0 → ⊥) → false ≡ is_zone z
  unfolding is_zone both
  not_whole h = sym (λ i. both (ne_eqb (ticks_in z % minute_ticks) 0 h i) (leb (ticks_in z / minute_ticks) max_zone))

  pub part_no_zone : (s.part ≡ 0 → ⊥) → false ≡ is_zone z
  part_no_zone h = not_whole (λ w. h (omega (arith, part_is)))

  pub seconds_no_zone : (s.seconds % 60 ≡ 0 → ⊥) → false ≡ is_zone z
  seconds_no_zone h = not_whole (λ w. h (omega (arith, seconds_of s (ticks_in z) e)))

  pub minutes_zone : s.part ≡ 0 → s.seconds % 60 ≡ 0 → leb (s.seconds / 60) max_zone ≡ is_zone z
  unfolding is_zone both
  minutes_zone p q =
      let w : eqb (ticks_in z % minute_ticks) 0 ≡ true = eq-eqb (ticks_in z % minute_ticks) 0 (omega (arith, part_is, seconds_of s (ticks_in z) e)) in
      λ i. both (sym w i) (leb (minutes_of i) max_zone)

zone_good : (n : Bool) (m : ℕ) → ok_signed max_day_time n m ≡ true → m / minute_ticks ≤ max_zone → m % minute_ticks ≡ 0
    → ok_offset (pick n (West (m / minute_ticks)) (East (m / minute_ticks))) ≡ true
unfolding ok_offset ok_signed every
zone_good true m g h w =
    let k : 0 < m = ltb-true 0 m (both_left _ _ (both_right _ _ g)) in
    both_true _ _ (le-leb 1 (m / minute_ticks) (omega arith)) (both_true _ _ (le-leb _ _ h) refl)
zone_good false m g h w = le-leb _ _ h

pub zone_ok : (z : D.DayTime) → ok_day_time z ≡ true → is_zone z ≡ true → ok_offset (zone_of z) ≡ true
zone_ok z g e = zone_good z.negative (ticks_in z) (day_time_signed z g) (zone_minutes_lem z e) (zone_whole z e)

pub own_zone : (d : DateTime) (w : Offset) → ok_date_time d ≡ true → d.zone ≡ Some w → ok_offset w ≡ true
unfolding ok_zone
own_zone d w g e = ap ok_zone (sym e) ∙ (good d g).zone

-- the instant of a record is far enough from zero for any zone
pub record Reaches (i : ℕ) : Type 0 where
  pub from : day_ticks ≤ i
  pub to : i < 2 * 366 * (max_year + 1) * day_ticks

pub instant_reaches : (d : DateTime) (w : Offset) → ok_date_time d ≡ true → ok_offset w ≡ true → Reaches (instant_at (local_of d) w)
instant_reaches d w g h =
    let e = east_to w h in
    let v = west_to w h in
    let t = timed d g in
    record { from = omega (arith, local_from d g); to = omega (arith, t.local_few) }

pub local_east : (s p m : ℕ) (o : Offset) → p < second_ticks → o ≡ East m → record { seconds = s + m * 60; part = p } ≡ span_of (local_at (s * second_ticks + p) o)
local_east s p m o h e = span_is (s + m * 60) p (local_at (s * second_ticks + p) (East m)) h (omega arith) ∙ (λ i. span_of (local_at (s * second_ticks + p) (sym e i)))

pub local_west : (s p m : ℕ) (o : Offset) → p < second_ticks → m * 60 ≤ s → o ≡ West m → record { seconds = s - m * 60; part = p } ≡ span_of (local_at (s * second_ticks + p) o)
local_west s p m o h k e = span_is (s - m * 60) p (local_at (s * second_ticks + p) (West m)) h (omega arith) ∙ (λ i. span_of (local_at (s * second_ticks + p) (sym e i)))

-- the same of spans, through the local time that the code has in hand
pub instant_span : (l s : Span) (n : ℕ) (w : Offset) → l ≡ span_of n → s ≡ span_of (instant_at (ticks_of l) w) → s ≡ span_of (instant_at n w)
instant_span l s n w e f = f ∙ ap (λ (x : ℕ). span_of (instant_at x w)) (ticks_of_lem l n e)

pub instant_room : (l s : Span) (d : DateTime) (w : Offset) → ok_date_time d ≡ true → ok_offset w ≡ true → l ≡ span_of (local_of d)
    → s ≡ span_of (instant_at (ticks_of l) w) → (s.part < second_ticks) × (max_zone * 60 ≤ s.seconds) × (s.seconds < 2 ^ 63)
instant_room l s d w g h e f =
    let r = instant_reaches d w g h in
    let x : s ≡ span_of (instant_at (local_of d) w) = instant_span l s (local_of d) w e f in
    let n : s.seconds ≡ instant_at (local_of d) w / second_ticks = seconds_of s (instant_at (local_of d) w) x in
    (part_of s (instant_at (local_of d) w) x, omega (arith, r.from), omega (arith, r.to))

pub local_span : (l s : Span) (n : ℕ) (o : Offset) → l ≡ span_of n → s ≡ span_of (local_at (ticks_of l) o) → s ≡ span_of (local_at n o)
local_span l s n o e f = f ∙ ap (λ (x : ℕ). span_of (local_at x o)) (ticks_of_lem l n e)

-- one adjustment, by the zone that the record has
pub adjusted_none : (k : Kind) (d r : DateTime) (x : Option Offset) (z : Offset) → x ≡ None → r ≡ with_zone d (Some z) → gives (Moment k r) ≡ adjusted_from k d x z
unfolding adjusted_from
adjusted_none k d r x z e f = (λ i. gives (Moment k (f i))) ∙ (λ i. adjusted_from k d (sym e i) z)

pub adjusted_own : (k : Kind) (d : DateTime) (x : Option Offset) (w z : Offset) → x ≡ Some w → at_ticks k (local_at (instant_at (local_of d) w) z) (Some z) ≡ adjusted_from k d x z
unfolding adjusted_from
adjusted_own k d x w z e = λ i. adjusted_from k d (sym e i) z
