-- Where the parts of a text start: the offset that is reached before a part follows from the widths of the parts
-- before it. A year within the bounds has four digits, a pair two, any other letter before the fraction one byte.
use mathlib.Core.Path.{◌≡◌, refl, ap, sym, ◌∙◌}
use mathlib.Core.Bool.{Bool, true, false}
use mathlib.Core.List.{List, [], ◌∷◌, ◌++◌}
use Prim.Native.Nat.{ℕ, ◌+◌, ◌*◌, ◌^◌, ◌≤◌, ◌<◌}
use Prim.Native.Char.{code}
use native.Mathlib.Omega.{arith}
use lib.Dec.{eqb, ltb}
use borrow.Author.Tests.{eq-eqb, eqb-false, ltb-true, ltb-false}
use Rattle.basis.specs.Choice.{pick, both, all_pass}
use Rattle.basis.specs.Letters.{bytes}
use Rattle.basis.proofs.Tests.{never, both_left, both_right, both_true}
use Rattle.value.specs.Bounds.{max_year}
use Rattle.value.specs.Rows.{template_of}
use Rattle.value.specs.declared.Kind.{Kind}
use Rattle.value.specs.declared.Kind.TheVariants as KV
use Rattle.numerals.specs.Reading.{is_digit, numeral_at, at}
use Rattle.numerals.proofs.Powers.{widened}
use Rattle.numerals.proofs.Stretches.{stretch_from}
use Rattle.text_scan.specs.Scanning.{Scan, pair_at, is_pair, with_pair, four_zeros, leading_zero, year_digits, year_at, year_part, part_at, scanned_part, scanned, start_of, scanned_parts}
use Rattle.text_scan.specs.Carried.{width, widths}
use Rattle.text_scan.proofs.Ways.{on}
use Rattle.text_scan.proofs.Lasting.{Everywhere, ended, letter, lasts}

-- how wide is what stands before each part, as far as the fraction
date_widths : (widths (bytes "Y-") ≡ 5) × (widths (bytes "Y-M-") ≡ 8)
unfolding widths width is_pair
date_widths = (refl, refl)

time_widths : (widths (bytes "h:") ≡ 3) × (widths (bytes "h:m:") ≡ 6) × (widths (bytes "h:m:s") ≡ 8)
unfolding widths width is_pair
time_widths = (refl, refl, refl)

date_time_widths : (widths (bytes "Y-M-DT") ≡ 11) × (widths (bytes "Y-M-DTh:") ≡ 14) × (widths (bytes "Y-M-DTh:m:") ≡ 17) × (widths (bytes "Y-M-DTh:m:s") ≡ 19)
unfolding widths width is_pair
date_time_widths = (refl, refl, refl, refl)

-- letters whose width is the same in every text: all but those of the year, the fraction and the zone
abbrev pub plain : ℕ → Bool
plain p = pick (eqb p (code "Y")) false (pick (eqb p (code "f")) false (pick (eqb p (code "z")) false true))

abbrev pub is_not : ℕ → ℕ → Bool
is_not q p = pick (eqb p q) false true

-- letters of that kind, and one year among them at most
unfoldable pub settled : List ℕ → Bool
settled [] = true
settled (p ∷ ps) = pick (eqb p (code "Y")) (all_pass plain ps) (both (plain p) (settled ps))

plain_settled : (ps : List ℕ) → all_pass plain ps ≡ true → settled ps ≡ true
unfolding settled
plain_settled [] e = refl
plain_settled (p ∷ ps) e = go (eqb p (code "Y")) (plain_settled ps (both_right (plain p) (all_pass plain ps) e))
  where
    go : (b : Bool) → settled ps ≡ true → pick b (all_pass plain ps) (both (plain p) (settled ps)) ≡ true
    go true r = both_right (plain p) (all_pass plain ps) e
    go false r = both_true (plain p) (settled ps) (both_left (plain p) (all_pass plain ps) e) r

plain_no_year : (ps : List ℕ) → all_pass plain ps ≡ true → all_pass (is_not (code "Y")) ps ≡ true
plain_no_year [] e = refl
plain_no_year (p ∷ ps) e = both_true _ _ (go (eqb p (code "Y")) (both_left (plain p) (all_pass plain ps) e)) (plain_no_year ps (both_right (plain p) (all_pass plain ps) e))
  where
    go : (b : Bool) → pick b false (pick (eqb p (code "f")) false (pick (eqb p (code "z")) false true)) ≡ true → pick b false true ≡ true
    go true h = h
    go false h = refl

-- a layout in two
pub in_two : (keep : ℕ → ℕ) (ps qs s : List ℕ) (t : Scan) → scanned keep (ps ++ qs) s t ≡ scanned keep qs s (scanned keep ps s t)
unfolding scanned
in_two keep [] qs s t = refl
in_two keep (p ∷ ps) qs s t = in_two keep ps qs s (scanned_part keep p s t)

-- a scan that ends well was good all along
pub good_before : (keep : ℕ → ℕ) (ps s : List ℕ) (t : Scan) → (scanned keep ps s t).good ≡ true → t.good ≡ true
unfolding scanned
good_before keep [] s t g = g
good_before keep (p ∷ ps) s t g = go t.good refl (good_before keep ps s (scanned_part keep p s t) g)
  where
    go : (b : Bool) → t.good ≡ b → (pick b (part_at keep p s t) t).good ≡ true → t.good ≡ true
    go true e h = e
    go false e h = h

-- two digits
pub pair_width : (s : List ℕ) (i : ℕ) → (pair_at s i).good ≡ true → (pair_at s i).at ≡ i + 2
unfolding pair_at
pair_width s i = go (is_digit (at s i)) (is_digit (at s (i + 1))) refl refl
  where
    go : (a b : Bool) → is_digit (at s i) ≡ a → is_digit (at s (i + 1)) ≡ b → (pair_at s i).good ≡ true → (pair_at s i).at ≡ i + 2
    go false b e f = rw e (λ g. absurd (never g))
    go true false e f = rw (e, f) (λ g. absurd (never g))
    go true true e f = rw (e, f) (λ g. refl)

-- any letter but those of the year, the fraction and the zone
module _ (keep : ℕ → ℕ) (s : List ℕ) where
  part_width : (p : ℕ) (t : Scan) → plain p ≡ true → (part_at keep p s t).good ≡ true → (part_at keep p s t).at ≡ t.at + width p
  unfolding part_at with_pair width
  part_width p t l = go (eqb p (code "Y")) (eqb p (code "f")) (eqb p (code "z")) (is_pair p) (eqb (at s t.at) p) refl refl refl refl refl l
    where
      go : (a b c d x : Bool) → eqb p (code "Y") ≡ a → eqb p (code "f") ≡ b → eqb p (code "z") ≡ c → is_pair p ≡ d → eqb (at s t.at) p ≡ x
          → pick a false (pick b false (pick c false true)) ≡ true → (part_at keep p s t).good ≡ true → (part_at keep p s t).at ≡ t.at + width p
      go true b c d x e f h i j k = absurd (never k)
      go false true c d x e f h i j k = absurd (never k)
      go false false true d x e f h i j k = absurd (never k)
      go false false false true x e f h i j k = rw (e, f, h, i) (pair_width s t.at)
      go false false false false true e f h i j k = rw (e, f, h, i, j) (λ g. refl)
      go false false false false false e f h i j k = rw (e, f, h, i, j) (λ g. absurd (never g))

  pub plain_widths : (ps : List ℕ) (t : Scan) → all_pass plain ps ≡ true → (scanned keep ps s t).good ≡ true → (scanned keep ps s t).at ≡ t.at + widths ps
  unfolding scanned widths
  plain_widths [] t l g = omega arith
  plain_widths (p ∷ ps) t l g =
      let good : t.good ≡ true = good_before keep (p ∷ ps) s t g in
      let e : scanned_part keep p s t ≡ part_at keep p s t = on keep p s t good in
      let f : (part_at keep p s t).good ≡ true = rw e at (good_before keep ps s (scanned_part keep p s t) g) in
      let w : (part_at keep p s t).at ≡ t.at + width p = part_width p t (both_left (plain p) (all_pass plain ps) l) f in
      omega (arith, plain_widths ps (scanned_part keep p s t) (both_right (plain p) (all_pass plain ps) l) g, ap (λ (r : Scan). r.at) e)

-- the year stays as it was found, whatever follows but another
abbrev HasYear : ℕ → Bool → Scan → Type 0
HasYear y n t = (t.date.year ≡ y) × (t.date.negative ≡ n)

no_year : (y : ℕ) (n : Bool) (ps : List ℕ) → all_pass (is_not (code "Y")) ps ≡ true → Everywhere (HasYear y n) ps
unfolding with_pair
no_year y n [] e = ended
no_year y n (p ∷ ps) e =
    letter
    (record {
      year = λ q. absurd (never (rw (eq-eqb p (code "Y") q) at (both_left (is_not (code "Y") p) (all_pass (is_not (code "Y")) ps) e)));
      fraction = λ q t s i a. a;
      zone = λ q t z i a. a;
      pair = λ q t g a. a;
    })
    (no_year y n ps (both_right (is_not (code "Y") p) (all_pass (is_not (code "Y")) ps) e))

year_stays : (keep : ℕ → ℕ) (ps s : List ℕ) (t : Scan) → all_pass (is_not (code "Y")) ps ≡ true
    → ((scanned keep ps s t).date.year ≡ t.date.year) × ((scanned keep ps s t).date.negative ≡ t.date.negative)
year_stays keep ps s t e = lasts (HasYear t.date.year t.date.negative) (λ t i g a. a) keep (no_year t.date.year t.date.negative ps e) s t (refl, refl)

-- what the checks before the calendar's leave
pub record Past (t : Scan) : Type 0 where
  pub good : t.good ≡ true
  pub plus : t.date.negative ≡ false
  pub year : t.date.year ≤ max_year

-- What is kept of a year tells whether it is within the bounds: all of it does, and so does what the code keeps.
module _ (keep : ℕ → ℕ) (tells : (n : ℕ) → keep n ≤ max_year → n ≤ max_year) where
  -- a year within the bounds has four digits: with more the first is not 0
  four_digits : (s : List ℕ) (i : ℕ) → year_digits ≤ (numeral_at s i).count → leading_zero s i (numeral_at s i).count ≡ false → (numeral_at s i).value ≤ max_year
      → (numeral_at s i).count ≡ year_digits
  unfolding both
  four_digits s i h l v = go (ltb year_digits (numeral_at s i).count) (eqb (at s i) (code "0")) refl refl l
    where
      longer : year_digits < (numeral_at s i).count → (at s i ≡ code "0" → ⊥) → ⊥
      longer m q =
          let a : 10 ^ (numeral_at s i).count ≤ 10 * (numeral_at s i).value = stretch_from s i q (omega arith) in
          let b : 99_999 < 10 ^ (numeral_at s i).count = widened 99_999 5 (numeral_at s i).count (omega arith) (omega arith) in
          omega arith

      go : (a b : Bool) → ltb year_digits (numeral_at s i).count ≡ a → eqb (at s i) (code "0") ≡ b → both a b ≡ false → (numeral_at s i).count ≡ year_digits
      go false b e f q = omega (arith, ltb-false year_digits (numeral_at s i).count e)
      go true true e f q = absurd (never (sym q))
      go true false e f q = absurd (longer (ltb-true year_digits (numeral_at s i).count e) (eqb-false (at s i) (code "0") f))

  year_at_width : (s : List ℕ) (i : ℕ) → (year_at keep s i).good ≡ true → (year_at keep s i).value ≤ max_year → (year_at keep s i).at ≡ i + year_digits
  unfolding year_at
  year_at_width s i = go (ltb (numeral_at s i).count year_digits) (four_zeros s i) (leading_zero s i (numeral_at s i).count) refl refl refl
    where
      go : (a b c : Bool) → ltb (numeral_at s i).count year_digits ≡ a → four_zeros s i ≡ b → leading_zero s i (numeral_at s i).count ≡ c
          → (year_at keep s i).good ≡ true → (year_at keep s i).value ≤ max_year → (year_at keep s i).at ≡ i + year_digits
      go true b c e f h = rw e (λ g. absurd (never g))
      go false true c e f h = rw (e, f) (λ g. absurd (never g))
      go false false true e f h = rw (e, f, h) (λ g. absurd (never g))
      go false false false e f h =
          rw (e, f, h) (λ g v. ap (λ (n : ℕ). i + n) (four_digits s i (ltb-false (numeral_at s i).count year_digits e) h (tells (numeral_at s i).value v)))

  year_width : (s : List ℕ) (t : Scan) → Past (year_part keep s t) → (year_part keep s t).at ≡ t.at + year_digits
  unfolding year_part
  year_width s t a = go (eqb (at s t.at) (code "-")) refl a.good a.plus a.year
    where
      go : (b : Bool) → eqb (at s t.at) (code "-") ≡ b → (year_part keep s t).good ≡ true → (year_part keep s t).date.negative ≡ false → (year_part keep s t).date.year ≤ max_year
          → (year_part keep s t).at ≡ t.at + year_digits
      go true e = rw e (λ g n. absurd (never (sym n)))
      go false e = rw e (λ g n y. year_at_width s t.at g y)

  -- the offset after letters of fixed width is that before them and their widths
  by_widths : (ps s : List ℕ) (t : Scan) → settled ps ≡ true → Past (scanned keep ps s t) → (scanned keep ps s t).at ≡ t.at + widths ps
  unfolding scanned settled widths width part_at
  by_widths [] s t l a = omega arith
  by_widths (p ∷ ps) s t l a = go (eqb p (code "Y")) refl l (by_widths ps s (scanned_part keep p s t))
    where
      good : t.good ≡ true
      good = good_before keep (p ∷ ps) s t a.good

      part : scanned_part keep p s t ≡ part_at keep p s t
      part = on keep p s t good

      found : (scanned_part keep p s t).good ≡ true
      found = good_before keep ps s (scanned_part keep p s t) a.good

      a_year : eqb p (code "Y") ≡ true → all_pass plain ps ≡ true → (scanned_part keep p s t).at ≡ t.at + width p
      a_year e m =
          let y : scanned_part keep p s t ≡ year_part keep s t = part ∙ rw e in
          let k = year_stays keep ps s (scanned_part keep p s t) (plain_no_year ps m) in
          let w : Past (scanned_part keep p s t) = record { good = found; plus = sym k.1 ∙ a.plus; year = rw k.0 at a.year } in
          ap (λ (r : Scan). r.at) y ∙ year_width s t (rw y at w) ∙ rw e

      go : (b : Bool) → eqb p (code "Y") ≡ b → pick b (all_pass plain ps) (both (plain p) (settled ps)) ≡ true
          → (settled ps ≡ true → Past (scanned keep ps s (scanned_part keep p s t)) → (scanned keep ps s (scanned_part keep p s t)).at ≡ (scanned_part keep p s t).at + widths ps)
          → (scanned keep ps s (scanned_part keep p s t)).at ≡ t.at + (width p + widths ps)
      go true e m r = omega (arith, r (plain_settled ps m) a, a_year e m)
      go false e m r =
          let w : (part_at keep p s t).at ≡ t.at + width p = part_width keep s p t (both_left (plain p) (settled ps) m) (rw part at found) in
          omega (arith, r (both_right (plain p) (settled ps) m) a, w, ap (λ (r : Scan). r.at) part)

  -- WHERE A PART STARTS: before the rest of a layout, which has no year, the text is passed by the widths of the
  -- letters
  pub starts : (ps qs s : List ℕ) (t : Scan) → settled ps ≡ true → all_pass (is_not (code "Y")) qs ≡ true → Past (scanned keep (ps ++ qs) s t)
      → (scanned keep ps s t).at ≡ t.at + widths ps
  starts ps qs s t l m a =
      let r : Scan = scanned keep ps s t in
      let e : scanned keep (ps ++ qs) s t ≡ scanned keep qs s r = in_two keep ps qs s t in
      let k = year_stays keep qs s r m in
      let w : Past (scanned keep qs s r) = rw e at a in
      by_widths ps s t l (record { good = good_before keep qs s r w.good; plus = sym k.1 ∙ w.plus; year = rw k.0 at w.year })

  -- the numbers, for each kind's layout
  module _ (s : List ℕ) where
    abbrev before : Kind → List ℕ → ℕ
    before k ps = (scanned keep ps s (start_of (template_of k))).at

    pub date_starts : Past (scanned_parts keep KV.Date s) → (before KV.Date (bytes "Y-") ≡ 5) × (before KV.Date (bytes "Y-M-") ≡ 8) × (before KV.Date (bytes "Y-M-D") ≡ 10)
    unfolding settled both widths width is_pair
    date_starts a =
        let t : Scan = start_of (template_of KV.Date) in
        (starts (bytes "Y-") (bytes "M-Dz") s t refl refl a, starts (bytes "Y-M-") (bytes "Dz") s t refl refl a, starts (bytes "Y-M-D") (bytes "z") s t refl refl a)

    pub time_starts : Past (scanned_parts keep KV.Time s)
        → (before KV.Time [] ≡ 0) × (before KV.Time (bytes "h:") ≡ 3) × (before KV.Time (bytes "h:m:") ≡ 6) × (before KV.Time (bytes "h:m:s") ≡ 8)
    unfolding settled both widths width is_pair
    time_starts a =
        let t : Scan = start_of (template_of KV.Time) in (
          starts [] (bytes "h:m:sfz") s t refl refl a,
          starts (bytes "h:") (bytes "m:sfz") s t refl refl a,
          starts (bytes "h:m:") (bytes "sfz") s t refl refl a,
          starts (bytes "h:m:s") (bytes "fz") s t refl refl a,
        )

    pub date_time_starts : Past (scanned_parts keep KV.DateTime s)
        → (before KV.DateTime (bytes "Y-") ≡ 5) × (before KV.DateTime (bytes "Y-M-") ≡ 8) × (before KV.DateTime (bytes "Y-M-DT") ≡ 11)
        × (before KV.DateTime (bytes "Y-M-DTh:") ≡ 14) × (before KV.DateTime (bytes "Y-M-DTh:m:") ≡ 17) × (before KV.DateTime (bytes "Y-M-DTh:m:s") ≡ 19)
    unfolding settled both widths width is_pair
    date_time_starts a =
        let t : Scan = start_of (template_of KV.DateTime) in (
          starts (bytes "Y-") (bytes "M-DTh:m:sfz") s t refl refl a,
          starts (bytes "Y-M-") (bytes "DTh:m:sfz") s t refl refl a,
          starts (bytes "Y-M-DT") (bytes "h:m:sfz") s t refl refl a,
          starts (bytes "Y-M-DTh:") (bytes "m:sfz") s t refl refl a,
          starts (bytes "Y-M-DTh:m:") (bytes "sfz") s t refl refl a,
          starts (bytes "Y-M-DTh:m:s") (bytes "fz") s t refl refl a,
        )
