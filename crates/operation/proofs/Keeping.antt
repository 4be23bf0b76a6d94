-- Adjustment of a value that has a zone: a kind with a whole date and a clock keeps its instant, one with a clock alone
-- its instant modulo 24 hours, and one with a date alone becomes the date in the new zone at the instant at which it
-- started.
use Rattle.std.specs.Prelude.{Option, Some}
use mathlib.Core.Path.{◌≡◌, refl, ap, sym, ◌∙◌}
use mathlib.Core.Bool.{true, false}
use Prim.Native.Nat.{ℕ, ◌+◌, ◌-◌, ◌*◌, ◌/◌, ◌%◌, ◌≤◌, ◌<◌}
use native.Mathlib.Omega.{arith}
use Rattle.basis.specs.Choice.{both}
use Rattle.basis.specs.Answer.{gives}
use Rattle.basis.proofs.Tests.{both_left, both_right}
use Rattle.calendar.specs.declared.Date.{Date}
use Rattle.calendar.specs.Calendar.{day_of, date_of}
use Rattle.value.specs.Bounds.{max_zone, minute_ticks, day_ticks}
use Rattle.value.specs.Clocks.{clock_of, at_clock_of}
use Rattle.value.specs.Refusals.{outside, bad_zone}
use Rattle.value.specs.Values.{date_in, ok_date_time, ok_offset}
use Rattle.value.specs.Rows.{layout_of, template_of, is_dated, is_clocked, kept}
use Rattle.value.specs.Kinds.{ok_value}
use Rattle.value_instants.specs.Ticks.{local_of, at_local, instant_at, instant_of, offset_in, east, west}
use Rattle.value.specs.declared.Offset.{Offset}
use Rattle.value.specs.declared.DateTime.{DateTime}
use Rattle.value.specs.declared.DayTime as D
use Rattle.value.specs.declared.Kind.{Kind}
use Rattle.value.specs.declared.Value.{Value}
use Rattle.value.specs.declared.Value.TheVariants as VV
use Rattle.value.proofs.ClockLaws.{clock_at, clock_kept}
use Rattle.value.proofs.Good.{numbered}
use Rattle.value.proofs.KindParts.{moment_good}
use Rattle.value.proofs.RowTests.{rows_pass}
use Rattle.value.proofs.RowLaws.{row_day, row_start}
use Rattle.value_instants.proofs.Within.{timed, east_to, west_to}
use Rattle.value_instants.proofs.Locals.{local_of_placed}
use Rattle.operation_quantities.specs.Results.{at_ticks}
use Rattle.value.proofs.PartsKept.{kept_whole, kept_date, kept_clock}
use Rattle.operation_quantities.proofs.Given.{given_test, given_rest}
use Rattle.operation_shifting.proofs.Undo.{placed_gives, given_in_years}
use Rattle.operation_adjusting.specs.Adjustment.{is_zone, zone_of, local_at, adjusted_from, adjusted_to, moment_to, value_to, adjust_of}
use Rattle.operation_adjusting.proofs.Zones.{zone_ok, own_zone, instant_reaches}
use Rattle.operation.proofs.Validity.{adjust_within}

-- the instant of a local time is that from which the local time was taken
instant_back : (i : ℕ) (z : Offset) → ok_offset z ≡ true → day_ticks ≤ i → instant_at (local_at i z) z ≡ i
instant_back i z g h =
    let e = east_to z g in
    let w = west_to z g in
    omega arith

-- the same on another day, modulo a day
module _ (n i e w : ℕ) (he : e ≤ max_zone) (hw : w ≤ max_zone) (hn : 1 ≤ n) (hi : day_ticks ≤ i) where
  round_day : (n * day_ticks + (i + e * minute_ticks - w * minute_ticks) % day_ticks + w * minute_ticks - e * minute_ticks) % day_ticks ≡ i % day_ticks
  round_day = omega arith

own_instant_lem : (o : Offset) (d : DateTime) (w : Offset) → d.zone ≡ Some w → instant_of o d ≡ instant_at (local_of d) w
unfolding instant_of
own_instant_lem o d w e = ap (λ (x : Option Offset). instant_at (local_of d) (offset_in o x)) e

-- what an adjustment that was answered says: the tests before it held, and the record was placed
record Adjusted (k : Kind) (d e : DateTime) (t : D.DayTime) (w : Offset) : Type 0 where
  pub own_ok : ok_date_time d ≡ true
  pub zone_good : ok_offset (zone_of t) ≡ true
  pub is_kept : kept k (at_local (local_at (instant_at (local_of d) w) (zone_of t)) (Some (zone_of t))) ≡ e
  pub own_from : day_ticks ≤ instant_at (local_of d) w

adjusted_by : (k : Kind) (d e : DateTime) (t : D.DayTime) (w : Offset) → d.zone ≡ Some w
    → adjust_of (VV.Moment k d) (VV.DayTime t) ≡ gives (VV.Moment k e) → Adjusted k d e t w
unfolding adjust_of value_to moment_to adjusted_from ok_value
adjusted_by k d e t w z h =
    let v : Value = VV.Moment k e in
    let g = given_test (both (ok_value (VV.Moment k d)) (ok_value (VV.DayTime t))) (adjusted_to k d t) outside v h in
    let f = given_rest (both (ok_value (VV.Moment k d)) (ok_value (VV.DayTime t))) (adjusted_to k d t) outside v h in
    let i = given_test (is_zone t) (adjusted_from k d d.zone (zone_of t)) bad_zone v f in
    let r = given_rest (is_zone t) (adjusted_from k d d.zone (zone_of t)) bad_zone v f in
    let l : ℕ = local_at (instant_at (local_of d) w) (zone_of t) in
    let p : at_ticks k l (Some (zone_of t)) ≡ gives v = (λ j. adjusted_from k d (sym z j) (zone_of t)) ∙ r in
    let y = given_in_years k l (Some (zone_of t)) v p in
    let x : gives (VV.Moment k (kept k (at_local l (Some (zone_of t))))) ≡ gives (VV.Moment k e) = sym (placed_gives k l (Some (zone_of t)) y) ∙ p in
    let o : ok_date_time d ≡ true = (moment_good (VV.Moment k d) (both_left _ _ g) k d refl).1 in
    record {
      own_ok = o;
      zone_good = zone_ok t (both_right _ _ g) i;
      is_kept = cc;
      own_from = (instant_reaches d w o (own_zone d w o z)).from;
    }

-- a kind with a whole date and a clock
pub adjust_keeps_instant : (o : Offset) (k : Kind) (d e : DateTime) (t : D.DayTime) (w : Offset) → is_dated k ≡ true → is_clocked k ≡ true → d.zone ≡ Some w
    → adjust_of (VV.Moment k d) (VV.DayTime t) ≡ gives (VV.Moment k e) → (instant_of o e ≡ instant_of o d) × (e.zone ≡ Some (zone_of t))
adjust_keeps_instant o k d e t w p q z h =
    let a = adjusted_by k d e t w z h in
    let i : ℕ = instant_at (local_of d) w in
    let l : ℕ = local_at i (zone_of t) in
    let x : at_local l (Some (zone_of t)) ≡ e = sym (kept_whole k (at_local l (Some (zone_of t))) p q) ∙ a.is_kept in
    let n : e.zone ≡ Some (zone_of t) = ap (λ (s : DateTime). s.zone) (sym x) in
    let m : local_of e ≡ l = ap local_of (sym x) ∙ local_of_placed l (Some (zone_of t)) in
    (own_instant_lem o e (zone_of t) n ∙ ap (λ (s : ℕ). instant_at s (zone_of t)) m ∙ instant_back i (zone_of t) a.zone_good a.own_from ∙ sym (own_instant_lem o d w z), n)

-- the time of day at a local time
clock_placed : (l : ℕ) (z : Option Offset) → clock_of (at_local l z) ≡ l % day_ticks
clock_placed l z = clock_at (date_of (l / day_ticks)) (l % day_ticks) z

-- the local time of a kind with a clock alone is on its template's day
abbrev pub reference_day : Kind → ℕ
reference_day k = day_of (date_in (template_of k))

reference_from : (k : Kind) → 1 ≤ reference_day k
reference_from k = (numbered (date_in (template_of k)) (row_day (layout_of k) (template_of k) (rows_pass k))).days_from

day_and_clock : (e : Date) (d : DateTime) (z : Option Offset) → local_of (at_clock_of e d z) ≡ day_of e * day_ticks + clock_of d
unfolding local_of
day_and_clock e d z = ap (λ (u : ℕ). day_of e * day_ticks + u) (clock_kept e d z)

pub on_reference : (k : Kind) (d : DateTime) → is_dated k ≡ false → is_clocked k ≡ true → local_of (kept k d) ≡ reference_day k * day_ticks + clock_of d
on_reference k d p q = ap local_of (kept_clock k d p q) ∙ day_and_clock (date_in (template_of k)) d d.zone

pub adjust_keeps_time : (o : Offset) (k : Kind) (d e : DateTime) (t : D.DayTime) (w : Offset) → is_dated k ≡ false → is_clocked k ≡ true → d.zone ≡ Some w
    → adjust_of (VV.Moment k d) (VV.DayTime t) ≡ gives (VV.Moment k e) → (instant_of o e % day_ticks ≡ instant_of o d % day_ticks) × (e.zone ≡ Some (zone_of t))
adjust_keeps_time o k d e t w p q z h =
    let a = adjusted_by k d e t w z h in
    let i : ℕ = instant_at (local_of d) w in
    let l : ℕ = local_at i (zone_of t) in
    let x : kept k (at_local l (Some (zone_of t))) ≡ e = a.is_kept in
    let n : e.zone ≡ Some (zone_of t) = ap (λ (s : DateTime). s.zone) (sym x) in
    let m : local_of e ≡ reference_day k * day_ticks + l % day_ticks = ap local_of (sym x) ∙ on_reference k (at_local l (Some (zone_of t))) p q ∙ ap (λ (u : ℕ). reference_day k * day_ticks + u) (clock_placed l (Some (zone_of t))) in
    let r : instant_of o e ≡ instant_at (reference_day k * day_ticks + l % day_ticks) (zone_of t) = own_instant_lem o e (zone_of t) n ∙ ap (λ (s : ℕ). instant_at s (zone_of t)) m in (
      ap (λ (s : ℕ). s % day_ticks) r
          ∙ round_day (reference_day k) i (east (zone_of t)) (west (zone_of t)) (east_to (zone_of t) a.zone_good) (west_to (zone_of t) a.zone_good) (reference_from k) a.own_from
          ∙ ap (λ (s : ℕ). s % day_ticks) (sym (own_instant_lem o d w z)),
      n,
    )

-- the start of a local time's day, which a kind with a whole date alone keeps
day_started : (x u : DateTime) (z : Option Offset) → clock_of u ≡ 0 → local_of (at_clock_of (date_in x) u z) + clock_of x ≡ local_of x
unfolding local_of
day_started x u z e = omega (arith, clock_kept (date_in x) u z)

start_of_day_lem : (k : Kind) (x : DateTime) → is_dated k ≡ true → is_clocked k ≡ false → local_of (kept k x) + clock_of x ≡ local_of x
start_of_day_lem k x p q =
    ap (λ (y : DateTime). local_of y + clock_of x) (kept_date k x p q)
    ∙ day_started x (template_of k) x.zone (row_start (layout_of k) (template_of k) (rows_pass k))

module _ (l i s e w : ℕ) (he : e ≤ max_zone) (hw : w ≤ max_zone) (hi : day_ticks ≤ i) (hs : day_ticks ≤ s) (hl : l ≡ i + e * minute_ticks - w * minute_ticks) (m : s + l % day_ticks ≡ l) where
  within_day : (s + w * minute_ticks - e * minute_ticks ≤ i) × (i < s + w * minute_ticks - e * minute_ticks + day_ticks)
  within_day = (omega arith, omega arith)

pub adjust_keeps_day : (o : Offset) (k : Kind) (d e : DateTime) (t : D.DayTime) (w : Offset) → is_dated k ≡ true → is_clocked k ≡ false → d.zone ≡ Some w
    → adjust_of (VV.Moment k d) (VV.DayTime t) ≡ gives (VV.Moment k e)
    → (instant_of o e ≤ instant_of o d) × (instant_of o d < instant_of o e + day_ticks) × (e.zone ≡ Some (zone_of t))
adjust_keeps_day o k d e t w p q z h =
    let a = adjusted_by k d e t w z h in
    let i : ℕ = instant_at (local_of d) w in
    let l : ℕ = local_at i (zone_of t) in
    let x : kept k (at_local l (Some (zone_of t))) ≡ e = a.is_kept in
    let n : e.zone ≡ Some (zone_of t) = ap (λ (s : DateTime). s.zone) (sym x) in
    let g : ok_date_time e ≡ true = (moment_good (VV.Moment k e) (adjust_within (VV.Moment k d) (VV.DayTime t) (VV.Moment k e) h) k e refl).1 in
    let m : local_of e + l % day_ticks ≡ l = (λ j. local_of (sym x j) + sym (clock_placed l (Some (zone_of t))) j) ∙ start_of_day_lem k (at_local l (Some (zone_of t))) p q ∙ local_of_placed l (Some (zone_of t)) in
    let b = within_day l i (local_of e) (east (zone_of t)) (west (zone_of t)) (east_to (zone_of t) a.zone_good) (west_to (zone_of t) a.zone_good) a.own_from (timed e g).local_from refl m in
    let c : instant_of o e ≡ instant_at (local_of e) (zone_of t) = own_instant_lem o e (zone_of t) n in
    let u : instant_of o d ≡ i = own_instant_lem o d w z in
    (omega (arith, b.0), omega (arith, b.1), n)
