-- A dayTimeDuration added and taken off again: a kind with a clock comes back, one with a date alone by whole days.
use Rattle.std.specs.Prelude.{None, Option, Some}
use mathlib.Core.Path.{◌≡◌, refl, ap, sym, ◌∙◌}
use mathlib.Core.Bool.{Bool, true, false}
use Prim.Native.Nat.{ℕ, ◌+◌, ◌-◌, ◌/◌, ◌%◌, ◌≤◌}
use native.Mathlib.Omega.{arith}
use lib.Dec.{leb}
use borrow.Author.Tests.{leb-true, leb-false}
use Rattle.basis.specs.Choice.{pick, both}
use Rattle.basis.specs.Answer.{gives}
use Rattle.calendar.specs.Calendar.{date_of, period_of}
use Rattle.value.specs.Bounds.{day_ticks}
use Rattle.value.specs.Carried.{max_clock}
use Rattle.value.specs.Clocks.{clock_of, with_time, at_clock}
use Rattle.value.specs.Values.{ok_date_time, date_in}
use Rattle.value.specs.Rows.{layout_of, template_of, is_dated, is_clocked, kept, of_kind}
use Rattle.value_instants.specs.Ticks.{local_of, at_local, in_years, placed_at}
use Rattle.value.specs.declared.DateTime.{DateTime}
use Rattle.value.specs.declared.Kind.{Kind}
use Rattle.value.specs.declared.Value.{Value}
use Rattle.value.specs.declared.Value.TheVariants as VV
use Rattle.value.proofs.Good.{good}
use Rattle.value.proofs.ClockLaws.{clock_at, clock_kept, at_its_clock, clock_to}
use Rattle.value_instants.proofs.Locals.{local_of_placed, local_in_years, placed_of_local}
use Rattle.value.proofs.KindParts.{of_kind_kept}
use Rattle.value.proofs.RowTests.{rows_pass}
use Rattle.value.proofs.RowLaws.{row_start, row_midnight}
use Rattle.operation_quantities.specs.Results.{at_ticks, of_placed}
use Rattle.value.proofs.PartsKept.{kept_whole, kept_date}
use Rattle.operation_shifting.specs.Shifts.{wrapped, wrapped_clock, shifted}
use Rattle.operation_shifting.proofs.Steps.{dated_shift, clocked_shift}
use Rattle.value.specs.declared.Offset.{Offset}

-- a result placed within the years, and one that was given
pub placed_gives : (k : Kind) (t : ℕ) (z : Option Offset) → in_years t ≡ true → at_ticks k t z ≡ gives (VV.Moment k (kept k (at_local t z)))
unfolding at_ticks placed_at
placed_gives k t z e = λ i. of_placed k (pick (e i) (Some (at_local t z)) None)

pub given_in_years : (k : Kind) (t : ℕ) (z : Option Offset) (v : Value) → at_ticks k t z ≡ gives v → in_years t ≡ true
unfolding at_ticks placed_at
given_in_years k t z v = go (in_years t) refl
  where
    go : (b : Bool) → in_years t ≡ b → of_placed k (pick b (Some (at_local t z)) None) ≡ gives v → in_years t ≡ true
    go true h e = h
    go false h e = cc

-- a local time within the years is above zero
nothing_in_years : in_years 0 ≡ false
unfolding in_years both date_of period_of
nothing_in_years = refl

pub in_years_from : (t : ℕ) → in_years t ≡ true → 1 ≤ t
in_years_from t e = go (leb 1 t) refl
  where
    go : (b : Bool) → leb 1 t ≡ b → 1 ≤ t
    go true h = leb-true 1 t h
    go false h =
        let z : t ≡ 0 = (let l = leb-false 1 t h in omega arith) in
        let c : true ≡ false = sym e ∙ ap in_years z ∙ nothing_in_years in
        let n : ◌≡◌ {A = ℕ} 0 1 = cc in
        omega arith

-- forth by p - q and back
pub there_and_back : (k : Kind) (d : DateTime) (p q : ℕ) → ok_date_time d ≡ true → kept k d ≡ d → in_years (local_of d + p - q) ≡ true
    → at_ticks k (local_of (at_local (local_of d + p - q) d.zone) + q - p) d.zone ≡ gives (VV.Moment k d)
there_and_back k d p q g e h =
    let n = in_years_from (local_of d + p - q) h in
    let l = local_of_placed (local_of d + p - q) d.zone in
    let b : local_of (at_local (local_of d + p - q) d.zone) + q - p ≡ local_of d = omega arith in
    ap (λ (t : ℕ). at_ticks k t d.zone) b ∙ placed_gives k (local_of d) d.zone (local_in_years d g)
    ∙ (λ i. gives (VV.Moment k (kept k (placed_of_local d g i)))) ∙ (λ i. gives (VV.Moment k (e i)))

-- a kind with a whole date: where it has no clock the record is at 00:00:00, and whole days leave it there
module _ (k : Kind) (n : is_dated k ≡ true) where
  day_start_lem : (d : DateTime) → is_clocked k ≡ false → of_kind k d ≡ true → clock_of d ≡ 0
  day_start_lem d c o =
      ap clock_of (sym (of_kind_kept k d o) ∙ kept_date k d n c) ∙ clock_kept (date_in d) (template_of k) d.zone
      ∙ row_start (layout_of k) (template_of k) (rows_pass k)

  whole_days : (d : DateTime) (p q : ℕ) → clock_of d ≡ 0 → p % day_ticks ≡ 0 → q % day_ticks ≡ 0 → (local_of d + p - q) % day_ticks ≡ 0
  unfolding local_of
  whole_days d p q u a b = omega arith

  at_day_start : (t : ℕ) (z : Option Offset) → is_clocked k ≡ false → t % day_ticks ≡ 0 → kept k (at_local t z) ≡ at_local t z
  at_day_start t z c w =
      let m = row_midnight (layout_of k) (template_of k) (rows_pass k) in
      kept_date k (at_local t z) n c ∙ (λ i. with_time (date_of (t / day_ticks)) (m.0 i) (m.1 i) z) ∙ (λ i. at_clock (date_of (t / day_ticks)) (sym w i) z)

  pub dated_undone : (d e : DateTime) (p q : ℕ) → ok_date_time d ≡ true → of_kind k d ≡ true
      → (is_clocked k ≡ false → (p % day_ticks ≡ 0) × (q % day_ticks ≡ 0)) → shifted k d p q ≡ gives (VV.Moment k e) → shifted k e q p ≡ gives (VV.Moment k d)
  dated_undone d e p q g o w h =
      let s : at_ticks k (local_of d + p - q) d.zone ≡ gives (VV.Moment k e) = sym (dated_shift k d p q n) ∙ h in
      let y = given_in_years k (local_of d + p - q) d.zone (VV.Moment k e) s in
      let f : gives (VV.Moment k (kept k (at_local (local_of d + p - q) d.zone))) ≡ gives (VV.Moment k e)
      = sym (placed_gives k (local_of d + p - q) d.zone y) ∙ s in
      let a : kept k (at_local (local_of d + p - q) d.zone) ≡ e = cc in
      let x : e ≡ at_local (local_of d + p - q) d.zone = sym a ∙ by (is_clocked k) refl in
      ap (λ (r : DateTime). shifted k r q p) x ∙ dated_shift k (at_local (local_of d + p - q) d.zone) q p n
      ∙ there_and_back k d p q g (of_kind_kept k d o) y
    where
      by : (b : Bool) → is_clocked k ≡ b → kept k (at_local (local_of d + p - q) d.zone) ≡ at_local (local_of d + p - q) d.zone
      by true c = kept_whole k (at_local (local_of d + p - q) d.zone) n c
      by false c = at_day_start (local_of d + p - q) d.zone c (whole_days d p q (day_start_lem d c o) (w c).0 (w c).1)

-- a kind with a clock alone goes round the day
round_back : (u p q : ℕ) → u ≤ max_clock → wrapped_clock (wrapped_clock u p q) q p ≡ u
round_back u p q h = omega arith

pub clocked_undone : (k : Kind) (d e : DateTime) (p q : ℕ) → is_dated k ≡ false → is_clocked k ≡ true → ok_date_time d ≡ true
    → shifted k d p q ≡ gives (VV.Moment k e) → shifted k e q p ≡ gives (VV.Moment k d)
clocked_undone k d e p q n c g h =
    let f : gives (VV.Moment k (wrapped d p q)) ≡ gives (VV.Moment k e) = sym (clocked_shift k d p q n c) ∙ h in
    let a : wrapped d p q ≡ e = cc in
    let t = (good d g).time in
    let m : wrapped_clock (clock_of (wrapped d p q)) q p ≡ clock_of d
    = ap (λ (u : ℕ). wrapped_clock u q p) (clock_at (date_in d) (wrapped_clock (clock_of d) p q) d.zone) ∙ round_back (clock_of d) p q (clock_to d t) in
    clocked_shift k e q p n c ∙ (λ i. gives (VV.Moment k (wrapped (sym a i) q p)))
    ∙ (λ i. gives (VV.Moment k (at_clock (date_in d) (m i) d.zone))) ∙ (λ i. gives (VV.Moment k (at_its_clock d t i)))
