-- A fact that lasts along a layout: where each letter that stands in it leaves the fact true of the state, the fact
-- is true of what is found at the end. A byte that stands for itself and a part that is missing alter nothing but the
-- offset.
use mathlib.Core.Path.{◌≡◌, refl}
use mathlib.Core.Bool.{Bool, true, false}
use mathlib.Core.List.{List, [], ◌∷◌}
use Prim.Native.Nat.{ℕ, ◌+◌}
use Prim.Native.Char.{code}
use lib.Dec.{eqb}
use lib.ListN.{length}
use borrow.Author.Tests.{eqb-true}
use Rattle.basis.specs.Choice.{pick}
use Rattle.numerals.specs.Reading.{at, fraction_at}
use Rattle.text_scan.specs.declared.FoundZone.{FoundZone}
use Rattle.text_scan.specs.Scanning.{Scan, Pair, Year, pair_at, year_at, year_part, fraction_part, zone_part, zone_signed, zone_hours, zone_minutes, with_pair, part_at, scanned_part, is_pair, reached, scanned, with_year, with_fraction, with_zone_part}

-- the offset does not matter to a fact
abbrev pub Steady : (Scan → Type 0) → Type 0
Steady P = (t : Scan) (i : ℕ) (g : Bool) → P t → P (reached t i g)

-- a letter leaves a fact true
pub record Leaves (P : Scan → Type 0) (p : ℕ) : Type 0 where
  pub year : p ≡ code "Y" → (t : Scan) (n : Bool) (y : Year) → P t → P (with_year t n y)
  pub fraction : p ≡ code "f" → (t : Scan) (s : List ℕ) (i : ℕ) → P t → P (with_fraction t (fraction_at s i))
  pub zone : p ≡ code "z" → (t : Scan) (z : FoundZone) (i : ℕ) → P t → P (with_zone_part t z i)
  pub pair : is_pair p ≡ true → (t : Scan) (g : Pair) → P t → P (with_pair p t g)

pub data Everywhere (P : Scan → Type 0) : List ℕ → Type 0 where
  ended : Everywhere P []
  letter : {p : ℕ} {ps : List ℕ} → Leaves P p → Everywhere P ps → Everywhere P (p ∷ ps)

module _ (P : Scan → Type 0) (w : Steady P) (s : List ℕ) (t : Scan) (a : P t) where
  signed_leaves : ((t : Scan) (z : FoundZone) (i : ℕ) → P t → P (with_zone_part t z i)) → (z : ℕ) → P (zone_signed s t z)
  unfolding zone_signed
  signed_leaves f z = hours (pair_at s (t.at + 1))
    where
      minutes : (h m : Pair) → P (zone_minutes t z h m)
      minutes h m = by m.good
        where
          by : (b : Bool) → P (pick b (with_zone_part t (record { sign = z; hours = h.value; minutes = m.value }) m.at) (reached t m.at false))
          by true = f t (record { sign = z; hours = h.value; minutes = m.value }) m.at a
          by false = w t m.at false a

      hours : (h : Pair) → P (zone_hours s t z h)
      hours h = by h.good (eqb (at s h.at) (code ":"))
        where
          by : (b c : Bool) → P (pick b (pick c (zone_minutes t z h (pair_at s (h.at + 1))) (reached t h.at false)) (reached t h.at false))
          by true true = minutes h (pair_at s (h.at + 1))
          by true false = w t h.at false a
          by false c = w t h.at false a

  zone_leaves : ((t : Scan) (z : FoundZone) (i : ℕ) → P t → P (with_zone_part t z i)) → P (zone_part s t)
  unfolding zone_part
  zone_leaves f = go (eqb (length s) t.at) (eqb (at s t.at) (code "Z")) (eqb (at s t.at) (code "+")) (eqb (at s t.at) (code "-"))
    where
      go : (b c d e : Bool) → P (pick b t (pick c (with_zone_part t (record { sign = code "Z"; hours = 0; minutes = 0 }) (t.at + 1)) (pick d (zone_signed s t (code "+")) (pick e (zone_signed s t (code "-")) (reached t t.at false)))))
      go true c d e = a
      go false true d e = f t (record { sign = code "Z"; hours = 0; minutes = 0 }) (t.at + 1) a
      go false false true e = signed_leaves f (code "+")
      go false false false true = signed_leaves f (code "-")
      go false false false false = w t t.at false a

  fraction_leaves : ((t : Scan) (s : List ℕ) (i : ℕ) → P t → P (with_fraction t (fraction_at s i))) → P (fraction_part s t)
  unfolding fraction_part
  fraction_leaves f = go (eqb (at s t.at) (code ".")) (eqb (fraction_at s (t.at + 1)).end (t.at + 1))
    where
      go : (b c : Bool) → P (pick b (pick c (reached t (t.at + 1) false) (with_fraction t (fraction_at s (t.at + 1)))) t)
      go true true = w t (t.at + 1) false a
      go true false = f t s (t.at + 1) a
      go false c = a

  module _ (keep : ℕ → ℕ) where
    year_leaves : ((t : Scan) (n : Bool) (y : Year) → P t → P (with_year t n y)) → P (year_part keep s t)
    unfolding year_part
    year_leaves f = go (eqb (at s t.at) (code "-"))
      where
        go : (b : Bool) → P (pick b (with_year t true (year_at keep s (t.at + 1))) (with_year t false (year_at keep s t.at)))
        go true = f t true (year_at keep s (t.at + 1)) a
        go false = f t false (year_at keep s t.at) a

    part_leaves : (p : ℕ) → Leaves P p → P (scanned_part keep p s t)
    unfolding part_at
    part_leaves p l = good t.good
      where
        go : (b c d e f : Bool) → eqb p (code "Y") ≡ b → eqb p (code "f") ≡ c → eqb p (code "z") ≡ d → is_pair p ≡ e
            → P (pick b (year_part keep s t) (pick c (fraction_part s t) (pick d (zone_part s t)
            (pick e (with_pair p t (pair_at s t.at)) (pick f (reached t (t.at + 1) true) (reached t t.at false))))))
        go true c d e f x y z v = year_leaves (l.year (eqb-true p (code "Y") x))
        go false true d e f x y z v = fraction_leaves (l.fraction (eqb-true p (code "f") y))
        go false false true e f x y z v = zone_leaves (l.zone (eqb-true p (code "z") z))
        go false false false true f x y z v = l.pair v t (pair_at s t.at) a
        go false false false false true x y z v = w t (t.at + 1) true a
        go false false false false false x y z v = w t t.at false a

        good : (b : Bool) → P (pick b (part_at keep p s t) t)
        good true = go (eqb p (code "Y")) (eqb p (code "f")) (eqb p (code "z")) (is_pair p) (eqb (at s t.at) p) refl refl refl refl
        good false = a

pub lasts : (P : Scan → Type 0) → Steady P → (keep : ℕ → ℕ) {ps : List ℕ} → Everywhere P ps → (s : List ℕ) (t : Scan) → P t → P (scanned keep ps s t)
unfolding scanned
lasts P w keep ended s t a = a
lasts P w keep (letter {p} l ls) s t a = lasts P w keep ls s (scanned_part keep p s t) (part_leaves P w s t a keep p l)
