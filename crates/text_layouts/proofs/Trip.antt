-- The round trip over the layouts: what a layout writes of a record within the bounds, it reads as what it keeps of the
-- record. The parts that it finds are within document 01's checks, so that the record is judged good.
use Rattle.std.specs.Prelude.{None, Option, Some}
use mathlib.Core.Path.{◌≡◌, refl, ap, sym, ◌∙◌}
use mathlib.Core.Bool.{Bool, true, false}
use mathlib.Core.List.{List, [], ◌∷◌}
use Prim.Native.Nat.{ℕ, ◌+◌, ◌%◌, ◌≤◌}
use Prim.Native.Char.{code}
use native.Mathlib.Omega.{arith}
use lib.Dec.{eqb}
use lib.ListN.{length, drop}
use borrow.Author.Tests.{le-leb, ne_eqb, eqb-true}
use Rattle.basis.specs.Choice.{pick, both, every}
use Rattle.basis.specs.Answer.{gives}
use Rattle.value.specs.Bounds.{max_year, max_zone, second_ticks}
use Rattle.value.specs.Clocks.{clock_of, at_clock}
use Rattle.value.specs.Values.{ok_date, ok_zone, ok_date_time}
use Rattle.value.specs.declared.Offset.TheVariants.{East, West}
use Rattle.value.specs.declared.DateTime.{DateTime}
use Rattle.value.specs.declared.Kind.{Kind}
use Rattle.value.specs.declared.Value.TheVariants as VV
use Rattle.value_instants.proofs.Within.{east_to, west_to}
use Rattle.text_scan.specs.declared.FoundDate.{FoundDate}
use Rattle.text_scan.specs.declared.FoundClock.{FoundClock}
use Rattle.text_scan.specs.declared.FoundZone.{FoundZone}
use Rattle.text_scan.specs.Scanning.{Scan, uncapped, is_pair, with_pair, scanned}
use Rattle.text_checks.specs.Reading.{max_hour, max_minute, day_end, ok_clock, good_clock, clock_ticks, clocked, offset_minutes, ok_parts, zone_is, day_found, on_calendar, judge}
use Rattle.text_layouts.specs.Writing.{pair_of, part_text, layout_text}
use Rattle.text_checks.proofs.Ways.{past_checks}
use Rattle.text_layouts.proofs.Keeping.{zone_kept, part_kept, all_kept, record_of, sane, Small, small}
use Rattle.text_layouts.proofs.Round.{Through, through}
use Rattle.value.specs.declared.Offset.{Offset}

-- the bounds that hold of what was found
pub record SoundDate (d : FoundDate) : Type 0 where
  pub plus : d.negative ≡ false
  pub year : d.year ≤ max_year

pub record SoundClock (c : FoundClock) : Type 0 where
  pub short : c.long ≡ false
  pub hour : c.hour ≤ max_hour
  pub minute : c.minute ≤ max_minute
  pub second : c.second ≤ max_minute

pub record SoundZone (z : FoundZone) : Type 0 where
  pub minutes : z.minutes ≤ max_minute
  pub offset : offset_minutes z ≤ max_zone

pub record Sound (t : Scan) : Type 0 where
  pub date : SoundDate t.date
  pub clock : SoundClock t.clock
  pub zone : SoundZone t.zone

-- a number as a field that a letter stands for
field_to : (p q bound n old : ℕ) → (p ≡ q → n ≤ bound) → old ≤ bound → pick (eqb p q) n old ≤ bound
field_to p q bound n old f h = by (eqb p q) refl
  where
    by : (b : Bool) → eqb p q ≡ b → pick b n old ≤ bound
    by true e = f (eqb-true p q e)
    by false e = h

module _ (p : ℕ) (v : DateTime) (m : Small v) (t : Scan) (b : Sound t) where
  zone_sound : (z : Option Offset) (i : ℕ) → ok_zone z ≡ true → Sound (zone_kept z t i)
  unfolding ok_zone
  zone_sound None i g = b
  zone_sound (Some (East n)) i g = go (eqb n 0) refl
    where
      go : (x : Bool) → eqb n 0 ≡ x → Sound (zone_kept (Some (East n)) t i)
      go true e = rw e (record { date = b.date; clock = b.clock; zone = record { minutes = omega arith; offset = omega arith } })
      go false e = rw e (record { date = b.date; clock = b.clock; zone = record { minutes = omega arith; offset = omega (arith, east_to (East n) g) } })
  zone_sound (Some (West n)) i g = record { date = b.date; clock = b.clock; zone = record { minutes = omega arith; offset = omega (arith, west_to (West n) g) } }

  placed_sound : (i : ℕ) → Sound (with_pair p t (record { value = pair_of p v; at = i; good = true }))
  unfolding with_pair pair_of
  placed_sound i =
      record {
        date = record { plus = b.date.plus; year = b.date.year };
        clock =
            record {
              short = b.clock.short;
              hour = field_to p (code "h") max_hour (pair_of p v) t.clock.hour (λ e. omega (arith, m.clock, ap (λ (q : ℕ). pair_of q v) e)) b.clock.hour;
              minute = field_to p (code "m") max_minute (pair_of p v) t.clock.minute (λ e. omega (arith, ap (λ (q : ℕ). pair_of q v) e)) b.clock.minute;
              second = field_to p (code "s") max_minute (pair_of p v) t.clock.second (λ e. omega (arith, ap (λ (q : ℕ). pair_of q v) e)) b.clock.second;
            };
        zone = b.zone;
      }

  sound : Sound (part_kept p v t)
  unfolding part_kept
  sound = go (eqb p (code "Y")) (eqb p (code "f")) (eqb p (code "z")) (is_pair p) (eqb (clock_of v % second_ticks) 0) refl refl refl refl refl
    where
      go : (x y z w u : Bool) → eqb p (code "Y") ≡ x → eqb p (code "f") ≡ y → eqb p (code "z") ≡ z → is_pair p ≡ w → eqb (clock_of v % second_ticks) 0 ≡ u → Sound (part_kept p v t)
      go true y z w u e f h j k = rw e (record { date = record { plus = refl; year = m.year }; clock = b.clock; zone = b.zone })
      go false true z w true e f h j k = rw (e, f, k) b
      go false true z w false e f h j k =
          rw (e, f, k) (record { date = b.date; clock = record { short = refl; hour = b.clock.hour; minute = b.clock.minute; second = b.clock.second }; zone = b.zone })
      go false false true w u e f h j k = rw (e, f, h) (zone_sound v.zone (t.at + length (part_text p v)) m.zone)
      go false false false true u e f h j k = rw (e, f, h, j) (placed_sound (t.at + length (part_text p v)))
      go false false false false u e f h j k = rw (e, f, h, j) (record { date = b.date; clock = b.clock; zone = b.zone })

sounds : (ps : List ℕ) (v : DateTime) → Small v → (t : Scan) → Sound t → Sound (all_kept ps v t)
unfolding all_kept
sounds [] v m t b = b
sounds (p ∷ ps) v m t b = sounds ps v m (part_kept p v t) (sound p v m t b)

-- a good date, clock and zone are a value
on_calendar_lem : (k : Kind) (d : FoundDate) (c : FoundClock) (z : FoundZone) → ok_date d.year d.month d.day ≡ true → SoundClock c → SoundZone z
    → on_calendar k d c z ≡ gives (VV.Moment k (at_clock (day_found d) (clock_ticks c) (zone_is z)))
unfolding on_calendar clocked good_clock ok_parts ok_clock every both
on_calendar_lem k d c z e a b =
    rw (e, le-leb c.hour max_hour a.hour, le-leb c.minute max_minute a.minute, le-leb c.second max_minute a.second, le-leb z.minutes max_minute b.minutes, le-leb (offset_minutes z) max_zone b.offset, ne_eqb c.hour day_end (λ q. omega (arith, a.hour)))

judged : (k : Kind) (t : Scan) → t.good ≡ true → Sound t → ok_date t.date.year t.date.month t.date.day ≡ true → judge k t.at t ≡ gives (VV.Moment k (record_of t))
judged k t g b d =
    sym (past_checks k t.at t g refl b.clock.short b.date.plus b.date.year) ∙ on_calendar_lem k t.date t.clock t.zone d b.clock b.zone

-- what a layout writes of v, it reads as what it keeps of v, over any sound template
pub round_from : (t : Scan) → t.good ≡ true → t.at ≡ 0 → Sound t → (k : Kind) (ps : List ℕ) (v : DateTime) → sane ps ≡ true → ok_date_time v ≡ true
    → ok_date (all_kept ps v t).date.year (all_kept ps v t).date.month (all_kept ps v t).date.day ≡ true
    → judge k (length (layout_text ps v)) (scanned uncapped ps (layout_text ps v) t) ≡ gives (VV.Moment k (record_of (all_kept ps v t)))
round_from t g z b k ps v h o d =
    let m : Small v = small v o in
    let s : List ℕ = layout_text ps v in
    let r : Through ps v s t = through ps v m s t g (omega arith) h (ap (λ (i : ℕ). drop i s) z) in
    let e : length s ≡ (all_kept ps v t).at = omega (arith, r.end) in
    ap (judge k (length s)) r.same ∙ ap (λ (n : ℕ). judge k n (all_kept ps v t)) e ∙ judged k (all_kept ps v t) r.good (sounds ps v m t b) d
