-- What a layout keeps of a record, field by field and by one induction over the letters: each letter sets one field and
-- leaves the others, so that a field is the record's where the layout has its letter, and else the template's.
use Rattle.std.specs.Prelude.{None, Option, Some}
use mathlib.Core.Path.{◌≡◌, refl, ap, sym, ◌∙◌}
use mathlib.Core.Bool.{Bool, true, false}
use mathlib.Core.List.{List, [], ◌∷◌}
use Prim.Native.Nat.{ℕ, ◌+◌, ◌*◌, ◌/◌, ◌%◌, ◌≤◌}
use Prim.Native.Char.{code}
use native.Mathlib.Omega.{arith}
use lib.Dec.{eqb}
use lib.ListN.{length}
use borrow.Author.Tests.{ne_eqb, eqb-true, leb-true}
use Rattle.basis.specs.Choice.{pick, every}
use Rattle.basis.proofs.Tests.{both_left}
use Rattle.value.specs.Bounds.{second_ticks}
use Rattle.value.specs.Clocks.{clock_of, at_clock}
use Rattle.value.specs.Values.{ok_offset, ok_zone, ok_time_part, ok_date_time, date_in}
use Rattle.value.specs.Rows.{has, kept_by}
use Rattle.value.specs.declared.Offset.TheVariants.{East, West}
use Rattle.value.specs.declared.DateTime.{DateTime}
use Rattle.value.proofs.Good.{good}
use Rattle.value.proofs.ClockLaws.{own_clock}
use Rattle.value.proofs.RowTests.{ok_row}
use Rattle.value.proofs.RowLaws.{row_start, kept_good}
use Rattle.text_scan.specs.declared.FoundClock.{FoundClock}
use Rattle.text_scan.specs.Scanning.{Scan, is_pair, with_pair, with_fraction, clock_fields, start_of}
use Rattle.text_checks.specs.Reading.{clock_ticks, zone_is}
use Rattle.text_layouts.specs.Writing.{pair_of, part_text}
use Rattle.text_layouts.proofs.Keeping.{zone_kept, part_kept, all_kept, record_of, ticks_shown, small}
use Rattle.value.proofs.ClockLetters.{with_minute, with_second_lem, with_fraction_lem}
use Rattle.value.specs.declared.Offset.{Offset}

-- which letter it is
data Letter : ℕ → Type 0 where
  year : Letter (code "Y")
  month : Letter (code "M")
  day : Letter (code "D")
  hour : Letter (code "h")
  minute : Letter (code "m")
  second : Letter (code "s")
  fraction : Letter (code "f")
  zone : Letter (code "z")
  mark : {p : ℕ} → eqb p (code "Y") ≡ false → eqb p (code "M") ≡ false → eqb p (code "D") ≡ false → eqb p (code "h") ≡ false → eqb p (code "m") ≡ false → eqb p (code "s") ≡ false → eqb p (code "f") ≡ false → eqb p (code "z") ≡ false → Letter p

named : {p q : ℕ} → Letter q → eqb p q ≡ true → Letter p
named {p} {q} l e = rw (eqb-true p q e) l

letter_of : (p : ℕ) → Letter p
letter_of p = go (eqb p (code "Y")) (eqb p (code "M")) (eqb p (code "D")) (eqb p (code "h")) (eqb p (code "m")) (eqb p (code "s")) (eqb p (code "f")) (eqb p (code "z")) refl refl refl refl refl refl refl refl
  where
    go : (a b c d e f g h : Bool) → eqb p (code "Y") ≡ a → eqb p (code "M") ≡ b → eqb p (code "D") ≡ c → eqb p (code "h") ≡ d → eqb p (code "m") ≡ e → eqb p (code "s") ≡ f → eqb p (code "f") ≡ g → eqb p (code "z") ≡ h → Letter p
    go true b c d e f g h i j k l m n o q = named year i
    go false true c d e f g h i j k l m n o q = named month j
    go false false true d e f g h i j k l m n o q = named day k
    go false false false true e f g h i j k l m n o q = named hour l
    go false false false false true f g h i j k l m n o q = named minute m
    go false false false false false true g h i j k l m n o q = named second n
    go false false false false false false true h i j k l m n o q = named fraction o
    go false false false false false false false true i j k l m n o q = named zone q
    go false false false false false false false false i j k l m n o q = mark i j k l m n o q

-- the fields of what was found, the zone as a zone
record Fields : Type 0 where
  year : ℕ
  month : ℕ
  day : ℕ
  hour : ℕ
  minute : ℕ
  second : ℕ
  part : ℕ
  zone : Option Offset

abbrev zoned : Scan → Option Offset → Fields
zoned t z =
    record {
      year = t.date.year;
      month = t.date.month;
      day = t.date.day;
      hour = t.clock.hour;
      minute = t.clock.minute;
      second = t.clock.second;
      part = t.clock.part;
      zone = z;
    }

abbrev fields_of : Scan → Fields
fields_of t = zoned t (zone_is t.zone)

-- a fraction of zero and no zone write nothing, so that what stands there stays
abbrev over : ℕ → ℕ → ℕ
over u x = pick (eqb u 0) x u

abbrev over_zone : Option Offset → Option Offset → Option Offset
over_zone None y = y
over_zone (Some o) y = Some o

-- what one letter does to the fields
abbrev after : ℕ → DateTime → Fields → Fields
after p v x =
    record {
      year = pick (eqb p (code "Y")) v.year x.year;
      month = pick (eqb p (code "M")) v.month x.month;
      day = pick (eqb p (code "D")) v.day x.day;
      hour = pick (eqb p (code "h")) (clock_fields (clock_of v)).hour x.hour;
      minute = pick (eqb p (code "m")) (clock_fields (clock_of v)).minute x.minute;
      second = pick (eqb p (code "s")) (clock_fields (clock_of v)).second x.second;
      part = pick (eqb p (code "f")) (over (clock_fields (clock_of v)).part x.part) x.part;
      zone = pick (eqb p (code "z")) (over_zone v.zone x.zone) x.zone;
    }

west_from : (n : ℕ) → ok_offset (West n) ≡ true → 1 ≤ n
unfolding ok_offset every
west_from n e = leb-true 1 n (both_left _ _ e)

-- a zone is what its text says, over none
zone_ends : (z : Option Offset) (t : Scan) (i : ℕ) → ok_zone z ≡ true → fields_of (zone_kept z t i) ≡ zoned t (over_zone z (zone_is t.zone))
unfolding zone_is ok_zone
zone_ends None t i g = refl
zone_ends (Some (East n)) t i g = go (eqb n 0) refl
  where
    go : (b : Bool) → eqb n 0 ≡ b → fields_of (zone_kept (Some (East n)) t i) ≡ zoned t (Some (East n))
    go true q = rw q (λ j. zoned t (Some (East (sym (eqb-true n 0 q) j))))
    go false q =
        let v : n / 60 * 60 + n % 60 ≡ n = omega arith in
        rw q (λ j. zoned t (Some (East (v j))))
zone_ends (Some (West n)) t i g =
    let v : n / 60 * 60 + n % 60 ≡ n = omega arith in
    rw (v, ne_eqb n 0 (λ q. omega (arith, west_from n g)))

module _ (v : DateTime) (o : ok_date_time v ≡ true) where
  one : (p : ℕ) (t : Scan) → fields_of (part_kept p v t) ≡ after p v (fields_of t)
  unfolding part_kept is_pair with_pair pair_of
  one p t = go (letter_of p)
    where
      fractioned : (i : ℕ) (b : Bool) → eqb (clock_of v % second_ticks) 0 ≡ b
          → fields_of (pick b t (with_fraction t (record { ticks = clock_of v % second_ticks; long = false; end = i })))
          ≡ record {
            year = t.date.year;
            month = t.date.month;
            day = t.date.day;
            hour = t.clock.hour;
            minute = t.clock.minute;
            second = t.clock.second;
            part = pick b t.clock.part (clock_of v % second_ticks);
            zone = zone_is t.zone;
          }
      fractioned i true e = refl
      fractioned i false e = refl

      go : {p : ℕ} → Letter p → fields_of (part_kept p v t) ≡ after p v (fields_of t)
      go year = refl
      go month = refl
      go day = refl
      go hour = refl
      go minute = refl
      go second = refl
      go fraction = fractioned (t.at + length (part_text (code "f") v)) (eqb (clock_of v % second_ticks) 0) refl
      go zone = zone_ends v.zone t (t.at + length (part_text (code "z") v)) (small v o).zone
      go (mark a b c d e f g h) = rw (a, b, c, d, e, f, g, h)

  -- THE INDUCTION: a field that one letter alone sets
  module _ {A : Type 0} (f : Fields → A) (u : A → A) (c : ℕ) (twice : (x : A) → u (u x) ≡ u x)
      (set : (p : ℕ) (x : Fields) → f (after p v x) ≡ pick (eqb p c) (u (f x)) (f x)) where
    joined : (b d : Bool) (x : A) → pick d (u (pick b (u x) x)) (pick b (u x) x) ≡ pick (pick b true d) (u x) x
    joined true true x = twice x
    joined true false x = refl
    joined false d x = refl

    keeps : (ps : List ℕ) (t : Scan) → f (fields_of (all_kept ps v t)) ≡ pick (has ps c) (u (f (fields_of t))) (f (fields_of t))
    unfolding all_kept has
    keeps [] t = refl
    keeps (p ∷ ps) t =
        keeps ps (part_kept p v t)
        ∙ ap (λ (x : A). pick (has ps c) (u x) x) (ap f (one p t) ∙ set p (fields_of t))
        ∙ joined (eqb p c) (has ps c) (f (fields_of t))

  over_twice : (n x : ℕ) → over n (over n x) ≡ over n x
  over_twice n x = go (eqb n 0)
    where
      go : (b : Bool) → pick b (pick b x n) n ≡ pick b x n
      go true = refl
      go false = refl

  zone_twice : (z x : Option Offset) → over_zone z (over_zone z x) ≡ over_zone z x
  zone_twice None x = refl
  zone_twice (Some q) x = refl

  over_none : (n : ℕ) → over n 0 ≡ n
  over_none n = go (eqb n 0) refl
    where
      go : (b : Bool) → eqb n 0 ≡ b → pick b 0 n ≡ n
      go true e = sym (eqb-true n 0 e)
      go false e = refl

  module _ (ps : List ℕ) (t : Scan) where
    pub year_kept : (all_kept ps v t).date.year ≡ pick (has ps (code "Y")) v.year t.date.year
    year_kept = keeps (λ x. x.year) (λ x. v.year) (code "Y") (λ x. refl) (λ p x. refl) ps t

    pub month_kept : (all_kept ps v t).date.month ≡ pick (has ps (code "M")) v.month t.date.month
    month_kept = keeps (λ x. x.month) (λ x. v.month) (code "M") (λ x. refl) (λ p x. refl) ps t

    pub day_kept : (all_kept ps v t).date.day ≡ pick (has ps (code "D")) v.day t.date.day
    day_kept = keeps (λ x. x.day) (λ x. v.day) (code "D") (λ x. refl) (λ p x. refl) ps t

    hour_kept : (all_kept ps v t).clock.hour ≡ pick (has ps (code "h")) (clock_fields (clock_of v)).hour t.clock.hour
    hour_kept = keeps (λ x. x.hour) (λ x. (clock_fields (clock_of v)).hour) (code "h") (λ x. refl) (λ p x. refl) ps t

    minute_kept : (all_kept ps v t).clock.minute ≡ pick (has ps (code "m")) (clock_fields (clock_of v)).minute t.clock.minute
    minute_kept = keeps (λ x. x.minute) (λ x. (clock_fields (clock_of v)).minute) (code "m") (λ x. refl) (λ p x. refl) ps t

    second_kept : (all_kept ps v t).clock.second ≡ pick (has ps (code "s")) (clock_fields (clock_of v)).second t.clock.second
    second_kept = keeps (λ x. x.second) (λ x. (clock_fields (clock_of v)).second) (code "s") (λ x. refl) (λ p x. refl) ps t

    part_kept_lem : t.clock.part ≡ 0 → (all_kept ps v t).clock.part ≡ pick (has ps (code "f")) (clock_fields (clock_of v)).part 0
    part_kept_lem e =
        keeps (λ x. x.part) (over (clock_fields (clock_of v)).part) (code "f") (over_twice (clock_fields (clock_of v)).part) (λ p x. refl) ps t
        ∙ (λ i. pick (has ps (code "f")) (over (clock_fields (clock_of v)).part (e i)) (e i))
        ∙ (λ i. pick (has ps (code "f")) (over_none (clock_fields (clock_of v)).part i) 0)

    zone_kept_lem : zone_is (all_kept ps v t).zone ≡ pick (has ps (code "z")) (over_zone v.zone (zone_is t.zone)) (zone_is t.zone)
    zone_kept_lem = keeps (λ x. x.zone) (over_zone v.zone) (code "z") (zone_twice v.zone) (λ p x. refl) ps t

-- THE CAST BY A LAYOUT IS WHAT THE ROW KEEPS
module _ (ps : List ℕ) (t v : DateTime) (r : ok_row ps t ≡ true) (o : ok_date_time v ≡ true) where
  abbrev found : Scan
  found = all_kept ps v (start_of t)

  kept_time : ok_time_part (pick (has ps (code "h")) v t) ≡ true
  unfolding ok_time_part
  kept_time = (good (kept_by ps t v) (kept_good ps t r v o)).time

  zone_is_lem : has ps (code "z") ≡ true → zone_is found.zone ≡ v.zone
  unfolding zone_is
  zone_is_lem z = zone_kept_lem v o ps (start_of t) ∙ (λ i. pick (z i) (over_zone v.zone None) None) ∙ whole v.zone
    where
      whole : (x : Option Offset) → over_zone x None ≡ x
      whole None = refl
      whole (Some q) = refl

  abbrev shows : ℕ → ℕ → ℕ → ℕ → FoundClock
  shows h m s u = record { hour = h; minute = m; second = s; part = u; long = found.clock.long; point = found.clock.point }

  clock_is : clock_ticks found.clock ≡ clock_of (pick (has ps (code "h")) v t)
  unfolding clock_ticks
  clock_is =
      let q : (start_of t).clock.part ≡ 0 = omega (arith, row_start ps t r) in
      (λ i. clock_ticks (shows
      (hour_kept v o ps (start_of t) i)
      ((minute_kept v o ps (start_of t) ∙ (λ j. pick (sym (with_minute ps t r) j) (clock_fields (clock_of v)).minute (start_of t).clock.minute)) i)
      ((second_kept v o ps (start_of t) ∙ (λ j. pick (sym (with_second_lem ps t r) j) (clock_fields (clock_of v)).second (start_of t).clock.second)) i)
      ((part_kept_lem v o ps (start_of t) q ∙ (λ j. pick (sym (with_fraction_lem ps t r) j) (clock_fields (clock_of v)).part 0)) i)))
      ∙ by (has ps (code "h"))
    where
      by : (b : Bool)
          → clock_ticks (shows
          (pick b (clock_fields (clock_of v)).hour (start_of t).clock.hour)
          (pick b (clock_fields (clock_of v)).minute (start_of t).clock.minute)
          (pick b (clock_fields (clock_of v)).second (start_of t).clock.second)
          (pick b (clock_fields (clock_of v)).part 0))
          ≡ clock_of (pick b v t)
      by true = ticks_shown (clock_of v) (small v o).clock
      by false = omega (arith, row_start ps t r)

  pub cast_is : has ps (code "z") ≡ true → record_of found ≡ kept_by ps t v
  cast_is z =
      (λ i. at_clock
      (record { year = year_kept v o ps (start_of t) i; month = month_kept v o ps (start_of t) i; day = day_kept v o ps (start_of t) i })
      (clock_is i)
      (zone_is_lem z i))
      ∙ own_clock (date_in (kept_by ps t v)) (pick (has ps (code "h")) v t) v.zone kept_time
