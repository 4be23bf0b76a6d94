-- What the code keeps of a year serves as well as the whole number: the parts that are found with it differ from those of
-- the definition in the year alone, which is cut at one above the greatest.
use mathlib.Core.Path.{◌≡◌, refl, ap, sym, ◌∙◌}
use mathlib.Core.Bool.{Bool, true, false}
use mathlib.Core.List.{List, [], ◌∷◌}
use Prim.Native.Nat.{ℕ, ◌+◌}
use Prim.Native.Char.{code}
use native.Mathlib.Omega.{arith}
use lib.Dec.{eqb, ltb}
use lib.ListN.{length}
use Rattle.basis.specs.Choice.{both, pick}
use Rattle.value.specs.Rows.{layout_of, template_of}
use Rattle.value.specs.declared.Kind.{Kind}
use Rattle.value.proofs.RowTests.{rows_pass}
use Rattle.value.proofs.RowLaws.{row_day}
use Rattle.numerals.specs.Reading.{at, numeral_at, fraction_at}
use Rattle.text_scan.specs.declared.FoundDate.{FoundDate}
use Rattle.text_scan.specs.Scanning.{Scan, Pair, Year, uncapped, four_zeros, pair_at, year_at, year_part, fraction_part, zone_part, zone_signed, zone_hours, zone_minutes, with_pair, part_at, scanned_part, is_pair, scanned, start_of, scanned_parts, with_year}
use Rattle.text_scan.specs.Carried.{capped}

abbrev pub cut_date : FoundDate → FoundDate
cut_date d = record { negative = d.negative; year = capped d.year; month = d.month; day = d.day }

abbrev pub cut : Scan → Scan
cut t = record { date = cut_date t.date; clock = t.clock; zone = t.zone; at = t.at; good = t.good }

abbrev cut_year : Year → Year
cut_year y = record { value = capped y.value; at = y.at; good = y.good }

year_cut : (s : List ℕ) (i : ℕ) → year_at capped s i ≡ cut_year (year_at uncapped s i)
unfolding year_at
year_cut s i = go (ltb (numeral_at s i).count 4) (four_zeros s i) (both (ltb 4 (numeral_at s i).count) (eqb (at s i) (code "0"))) refl refl refl
  where
    go : (a b c : Bool) → ltb (numeral_at s i).count 4 ≡ a → four_zeros s i ≡ b
        → both (ltb 4 (numeral_at s i).count) (eqb (at s i) (code "0")) ≡ c → year_at capped s i ≡ cut_year (year_at uncapped s i)
    go true b c e f g = rw e
    go false true c e f g = rw (e, f)
    go false false true e f g = rw (e, f, g)
    go false false false e f g = rw (e, f, g)

module _ (s : List ℕ) (t : Scan) where
  year_part_cut : year_part capped s (cut t) ≡ cut (year_part uncapped s t)
  unfolding year_part
  year_part_cut = go (eqb (at s t.at) (code "-")) refl
    where
      go : (b : Bool) → eqb (at s t.at) (code "-") ≡ b → year_part capped s (cut t) ≡ cut (year_part uncapped s t)
      go true e = rw e (ap (with_year t true) (year_cut s (t.at + 1)))
      go false e = rw e (ap (with_year t false) (year_cut s t.at))

  fraction_cut : fraction_part s (cut t) ≡ cut (fraction_part s t)
  unfolding fraction_part
  fraction_cut = go (eqb (at s t.at) (code ".")) (eqb (fraction_at s (t.at + 1)).end (t.at + 1)) refl refl
    where
      go : (a b : Bool) → eqb (at s t.at) (code ".") ≡ a → eqb (fraction_at s (t.at + 1)).end (t.at + 1) ≡ b → fraction_part s (cut t) ≡ cut (fraction_part s t)
      go false b e f = rw e
      go true true e f = rw (e, f)
      go true false e f = rw (e, f)

  signed_cut : (z : ℕ) → zone_signed s (cut t) z ≡ cut (zone_signed s t z)
  unfolding zone_signed
  signed_cut z = hours (pair_at s (t.at + 1))
    where
      minutes : (h m : Pair) → zone_minutes (cut t) z h m ≡ cut (zone_minutes t z h m)
      minutes h m = by m.good refl
        where
          by : (b : Bool) → m.good ≡ b → zone_minutes (cut t) z h m ≡ cut (zone_minutes t z h m)
          by true e = rw e
          by false e = rw e

      hours : (h : Pair) → zone_hours s (cut t) z h ≡ cut (zone_hours s t z h)
      hours h = by h.good (eqb (at s h.at) (code ":")) refl refl
        where
          by : (a b : Bool) → h.good ≡ a → eqb (at s h.at) (code ":") ≡ b → zone_hours s (cut t) z h ≡ cut (zone_hours s t z h)
          by false b e f = rw e
          by true false e f = rw (e, f)
          by true true e f = rw (e, f) (minutes h (pair_at s (h.at + 1)))

  zone_cut : zone_part s (cut t) ≡ cut (zone_part s t)
  unfolding zone_part
  zone_cut = go (eqb (length s) t.at) (eqb (at s t.at) (code "Z")) (eqb (at s t.at) (code "+")) (eqb (at s t.at) (code "-")) refl refl refl refl
    where
      go : (a b c d : Bool) → eqb (length s) t.at ≡ a → eqb (at s t.at) (code "Z") ≡ b → eqb (at s t.at) (code "+") ≡ c → eqb (at s t.at) (code "-") ≡ d
          → zone_part s (cut t) ≡ cut (zone_part s t)
      go true b c d e f g h = rw e
      go false true c d e f g h = rw (e, f)
      go false false true d e f g h = rw (e, f, g) (signed_cut (code "+"))
      go false false false true e f g h = rw (e, f, g, h) (signed_cut (code "-"))
      go false false false false e f g h = rw (e, f, g, h)

  placed_cut : (p : ℕ) (g : Pair) → with_pair p (cut t) g ≡ cut (with_pair p t g)
  unfolding with_pair
  placed_cut p g = refl

  part_at_cut : (p : ℕ) → part_at capped p s (cut t) ≡ cut (part_at uncapped p s t)
  unfolding part_at
  part_at_cut p = go (eqb p (code "Y")) (eqb p (code "f")) (eqb p (code "z")) (is_pair p) (eqb (at s t.at) p) refl refl refl refl refl
    where
      go : (a b c d x : Bool) → eqb p (code "Y") ≡ a → eqb p (code "f") ≡ b → eqb p (code "z") ≡ c → is_pair p ≡ d → eqb (at s t.at) p ≡ x → part_at capped p s (cut t) ≡ cut (part_at uncapped p s t)
      go true b c d x e f i j k = rw e year_part_cut
      go false true c d x e f i j k = rw (e, f) fraction_cut
      go false false true d x e f i j k = rw (e, f, i) zone_cut
      go false false false true x e f i j k = rw (e, f, i, j) (placed_cut p (pair_at s t.at))
      go false false false false true e f i j k = rw (e, f, i, j, k)
      go false false false false false e f i j k = rw (e, f, i, j, k)

  part_cut : (p : ℕ) → scanned_part capped p s (cut t) ≡ cut (scanned_part uncapped p s t)
  part_cut p = go t.good (part_at_cut p)
    where
      go : (b : Bool) → part_at capped p s (cut t) ≡ cut (part_at uncapped p s t) → pick b (part_at capped p s (cut t)) (cut t) ≡ cut (pick b (part_at uncapped p s t) t)
      go true e = e
      go false e = refl

scanned_cut : (ps s : List ℕ) (t : Scan) → scanned capped ps s (cut t) ≡ cut (scanned uncapped ps s t)
unfolding scanned
scanned_cut [] s t = refl
scanned_cut (p ∷ ps) s t = ap (scanned capped ps s) (part_cut s t p) ∙ scanned_cut ps s (scanned_part uncapped p s t)

-- the template's year is not cut
pub parts_cut : (k : Kind) (s : List ℕ) → scanned_parts capped k s ≡ cut (scanned_parts uncapped k s)
parts_cut k s = sym (ap (scanned capped (layout_of k) s) whole) ∙ scanned_cut (layout_of k) s t
  where
    t : Scan
    t = start_of (template_of k)

    year : capped (template_of k).year ≡ (template_of k).year
    year = omega (arith, (row_day (layout_of k) (template_of k) (rows_pass k)).year_to)

    whole : cut t ≡ t
    whole = λ i. record { date = record { negative = false; year = year i; month = t.date.month; day = t.date.day }; clock = t.clock; zone = t.zone; at = 0; good = true }
