-- Where the fraction and the zone of a text stand: the point after the letters before it, and more digits than a
-- fraction has where they are too many; the zone before the text's end, as wide as its sign says.
use mathlib.Core.Path.{◌≡◌, refl, ap, sym, ◌∙◌}
use mathlib.Core.Bool.{Bool, true, false}
use mathlib.Core.List.{List, [], ◌∷◌, ◌++◌}
use Prim.Native.Nat.{ℕ, ◌+◌, ◌≤◌}
use Prim.Native.Char.{code}
use native.Mathlib.Omega.{arith}
use lib.Dec.{eqb}
use lib.ListN.{length}
use borrow.Author.Tests.{eq-eqb, eqb-true}
use Rattle.basis.specs.Choice.{pick, both, all_pass}
use Rattle.basis.specs.Letters.{bytes}
use Rattle.basis.proofs.Tests.{never, both_left, both_right}
use Rattle.value.specs.Rows.{template_of}
use Rattle.value.specs.declared.Kind.TheVariants as KV
use Rattle.numerals.specs.Reading.{is_digit, at, fraction_digits, fraction_at}
use Rattle.numerals.proofs.Fractions.{digit_too_many}
use Rattle.text_scan.specs.Scanning.{Scan, Pair, pair_at, is_pair, with_pair, fraction_part, reached, with_fraction, with_zone_part, zone_part, zone_signed, zone_hours, zone_minutes, part_at, scanned_part, scanned, start_of, scanned_parts}
use Rattle.text_scan.specs.Carried.{signed_width, width, widths}
use Rattle.text_scan.proofs.Lasting.{Everywhere, ended, letter, lasts}
use Rattle.text_scan.proofs.Starts.{is_not, in_two, good_before, pair_width, plain_widths}

-- a fraction with too many digits: a point, and one digit more than a fraction has
abbrev TooMany : List ℕ → ℕ → Type 0
TooMany s i = (at s i ≡ code ".") × ((j : ℕ) → j ≤ fraction_digits → is_digit (at s (i + 1 + j)) ≡ true)

long_fraction_lem : (s : List ℕ) (t : Scan) → t.clock.long ≡ false → (fraction_part s t).clock.long ≡ true → TooMany s t.at
unfolding fraction_part
long_fraction_lem s t e = go (eqb (at s t.at) (code ".")) (eqb (fraction_at s (t.at + 1)).end (t.at + 1)) refl
  where
    go : (a b : Bool) → eqb (at s t.at) (code ".") ≡ a
        → (pick a (pick b (reached t (t.at + 1) false) (with_fraction t (fraction_at s (t.at + 1)))) t).clock.long ≡ true → TooMany s t.at
    go true true q l = absurd (never (sym e ∙ l))
    go true false q l = (eqb-true (at s t.at) (code ".") q, digit_too_many s (t.at + 1) l)
    go false b q l = absurd (never (sym e ∙ l))

-- of such a fraction the point is kept
long_point : (s : List ℕ) (t : Scan) → t.clock.long ≡ false → (fraction_part s t).clock.long ≡ true → (fraction_part s t).clock.point ≡ t.at
unfolding fraction_part
long_point s t e = go (eqb (at s t.at) (code ".")) (eqb (fraction_at s (t.at + 1)).end (t.at + 1))
  where
    go : (a b : Bool) → (pick a (pick b (reached t (t.at + 1) false) (with_fraction t (fraction_at s (t.at + 1)))) t).clock.long ≡ true
        → (pick a (pick b (reached t (t.at + 1) false) (with_fraction t (fraction_at s (t.at + 1)))) t).clock.point ≡ t.at
    go true true l = absurd (never (sym e ∙ l))
    go true false l = refl
    go false b l = absurd (never (sym e ∙ l))

-- only a fraction's letter alters whether there are too many and where its point stands, and only a zone's letter the
-- zone
abbrev IsLong : Bool → Scan → Type 0
IsLong b t = t.clock.long ≡ b

abbrev PointAt : ℕ → Scan → Type 0
PointAt i t = t.clock.point ≡ i

abbrev NoZone : Scan → Type 0
NoZone t = t.zone.sign ≡ 0

other : (q p : ℕ) (ps : List ℕ) → all_pass (is_not q) (p ∷ ps) ≡ true → p ≡ q → ⊥
other q p ps e h = never (rw (eq-eqb p q h) at (both_left (is_not q p) (all_pass (is_not q) ps) e))

long_stays : (b : Bool) (ps : List ℕ) → all_pass (is_not (code "f")) ps ≡ true → Everywhere (IsLong b) ps
unfolding with_pair
long_stays b [] e = ended
long_stays b (p ∷ ps) e =
    letter (record { year = λ q t n y a. a; fraction = λ q. absurd (other (code "f") p ps e q); zone = λ q t z i a. a; pair = λ q t g a. a })
    (long_stays b ps (both_right (is_not (code "f") p) (all_pass (is_not (code "f")) ps) e))

point_stays : (i : ℕ) (ps : List ℕ) → all_pass (is_not (code "f")) ps ≡ true → Everywhere (PointAt i) ps
unfolding with_pair
point_stays i [] e = ended
point_stays i (p ∷ ps) e =
    letter (record { year = λ q t n y a. a; fraction = λ q. absurd (other (code "f") p ps e q); zone = λ q t z j a. a; pair = λ q t g a. a })
    (point_stays i ps (both_right (is_not (code "f") p) (all_pass (is_not (code "f")) ps) e))

no_zone_yet : (ps : List ℕ) → all_pass (is_not (code "z")) ps ≡ true → Everywhere NoZone ps
unfolding with_pair
no_zone_yet [] e = ended
no_zone_yet (p ∷ ps) e =
    letter (record { year = λ q t n y a. a; fraction = λ q t s i a. a; zone = λ q. absurd (other (code "z") p ps e q); pair = λ q t g a. a })
    (no_zone_yet ps (both_right (is_not (code "z") p) (all_pass (is_not (code "z")) ps) e))

module _ (keep : ℕ → ℕ) (s : List ℕ) where
  -- WHERE DIGITS ARE TOO MANY: after the letters before the fraction
  pub too_many_at : (ps qs : List ℕ) (t : Scan) → all_pass (is_not (code "f")) ps ≡ true → all_pass (is_not (code "f")) qs ≡ true
      → t.clock.long ≡ false → (scanned keep (ps ++ code "f" ∷ qs) s t).clock.long ≡ true → TooMany s (scanned keep ps s t).at
  unfolding scanned part_at
  too_many_at ps qs t m n e l = found r.good refl
    where
      r : Scan
      r = scanned keep ps s t

      short : r.clock.long ≡ false
      short = lasts (IsLong false) (λ t i g a. a) keep (long_stays false ps m) s t e

      stays : {b : Bool} → (scanned_part keep (code "f") s r).clock.long ≡ b → (scanned keep qs s (scanned_part keep (code "f") s r)).clock.long ≡ b
      stays {b} q = lasts (IsLong b) (λ t i g a. a) keep (long_stays b qs n) s (scanned_part keep (code "f") s r) q

      long : (scanned_part keep (code "f") s r).clock.long ≡ true
      long = sym (stays refl) ∙ ap (λ (x : Scan). x.clock.long) (sym (in_two keep ps (code "f" ∷ qs) s t)) ∙ l

      found : (b : Bool) → r.good ≡ b → TooMany s r.at
      found true q = long_fraction_lem s r short (sym (λ i. (pick (q i) (fraction_part s r) r).clock.long) ∙ long)
      found false q = absurd (never (sym short ∙ sym (λ i. (pick (q i) (fraction_part s r) r).clock.long) ∙ long))

  -- and the point before them is kept
  pub point_kept : (ps qs : List ℕ) (t : Scan) → all_pass (is_not (code "f")) ps ≡ true → all_pass (is_not (code "f")) qs ≡ true
      → t.clock.long ≡ false → (scanned keep (ps ++ code "f" ∷ qs) s t).clock.long ≡ true
      → (scanned keep (ps ++ code "f" ∷ qs) s t).clock.point ≡ (scanned keep ps s t).at
  unfolding scanned part_at
  point_kept ps qs t m n e l = ap (λ (x : Scan). x.clock.point) (in_two keep ps (code "f" ∷ qs) s t) ∙ stays (found r.good refl)
    where
      r : Scan
      r = scanned keep ps s t

      short : r.clock.long ≡ false
      short = lasts (IsLong false) (λ t i g a. a) keep (long_stays false ps m) s t e

      stays : {j : ℕ} → (scanned_part keep (code "f") s r).clock.point ≡ j → (scanned keep qs s (scanned_part keep (code "f") s r)).clock.point ≡ j
      stays {j} q = lasts (PointAt j) (λ t i g a. a) keep (point_stays j qs n) s (scanned_part keep (code "f") s r) q

      long : (scanned_part keep (code "f") s r).clock.long ≡ true
      long = sym (lasts (IsLong (scanned_part keep (code "f") s r).clock.long) (λ t i g a. a) keep (long_stays (scanned_part keep (code "f") s r).clock.long qs n) s (scanned_part keep (code "f") s r) refl)
          ∙ ap (λ (x : Scan). x.clock.long) (sym (in_two keep ps (code "f" ∷ qs) s t)) ∙ l

      found : (b : Bool) → r.good ≡ b → (scanned_part keep (code "f") s r).clock.point ≡ r.at
      found true q = (λ i. (pick (q i) (fraction_part s r) r).clock.point) ∙ long_point s r short (sym (λ i. (pick (q i) (fraction_part s r) r).clock.long) ∙ long)
      found false q = absurd (never (sym short ∙ sym (λ i. (pick (q i) (fraction_part s r) r).clock.long) ∙ long))

  -- so the digit that is one too many is told by what was found, whatever the year
  pub too_many_kept : (ps qs : List ℕ) (t : Scan) → all_pass (is_not (code "f")) ps ≡ true → all_pass (is_not (code "f")) qs ≡ true
      → t.clock.long ≡ false → (scanned keep (ps ++ code "f" ∷ qs) s t).clock.long ≡ true → TooMany s (scanned keep (ps ++ code "f" ∷ qs) s t).clock.point
  too_many_kept ps qs t m n e l = rw (point_kept ps qs t m n e l) (too_many_at ps qs t m n e l)

  -- of a time the point stands at 8; of a dateTime 15 bytes after the year, however many digits that has
  pub time_long : (scanned_parts keep KV.Time s).good ≡ true → (scanned_parts keep KV.Time s).clock.long ≡ true → TooMany s 8
  unfolding both widths width is_pair
  time_long g l =
      let t : Scan = start_of (template_of KV.Time) in
      let b : (scanned keep (bytes "fz") s (scanned keep (bytes "h:m:s") s t)).good ≡ true = ap (λ (x : Scan). x.good) (sym (in_two keep (bytes "h:m:s") (bytes "fz") s t)) ∙ g in
      let w : (scanned keep (bytes "h:m:s") s t).at ≡ 8 = plain_widths keep s (bytes "h:m:s") t refl (good_before keep (bytes "fz") s (scanned keep (bytes "h:m:s") s t) b) in
      rw w at (too_many_at (bytes "h:m:s") (bytes "z") t refl refl refl l)

  pub date_time_long : (scanned_parts keep KV.DateTime s).good ≡ true → (scanned_parts keep KV.DateTime s).clock.long ≡ true
      → TooMany s ((scanned keep (bytes "Y") s (start_of (template_of KV.DateTime))).at + 15)
  unfolding scanned both widths width is_pair
  date_time_long g l =
      let t : Scan = start_of (template_of KV.DateTime) in
      let y : Scan = scanned keep (bytes "Y") s t in
      let b : (scanned keep (bytes "fz") s (scanned keep (bytes "-M-DTh:m:s") s y)).good ≡ true = ap (λ (x : Scan). x.good) (sym (in_two keep (bytes "-M-DTh:m:s") (bytes "fz") s y)) ∙ g in
      let w : (scanned keep (bytes "-M-DTh:m:s") s y).at ≡ y.at + 15 = plain_widths keep s (bytes "-M-DTh:m:s") y refl (good_before keep (bytes "fz") s (scanned keep (bytes "-M-DTh:m:s") s y) b) in
      rw w at (too_many_at (bytes "Y-M-DTh:m:s") (bytes "z") t refl refl refl l)

-- how wide a zone is, by its sign
abbrev pub zone_width : ℕ → ℕ
zone_width sign = pick (eqb sign 0) 0 (pick (eqb sign (code "Z")) 1 signed_width)

abbrev Signed : Scan → ℕ → Scan → Type 0
Signed t z r = r.good ≡ true → (r.at ≡ t.at + signed_width) × (r.zone.sign ≡ z)

signed_width_lem : (s : List ℕ) (t : Scan) (z : ℕ) → (zone_signed s t z).good ≡ true → ((zone_signed s t z).at ≡ t.at + signed_width) × ((zone_signed s t z).zone.sign ≡ z)
unfolding zone_signed
signed_width_lem s t z = hours (pair_at s (t.at + 1)) (pair_width s (t.at + 1))
  where
    minutes : (h m : Pair) → (m.good ≡ true → m.at ≡ t.at + signed_width) → Signed t z (zone_minutes t z h m)
    minutes h m f = by m.good refl
      where
        by : (b : Bool) → m.good ≡ b → Signed t z (pick b (with_zone_part t (record { sign = z; hours = h.value; minutes = m.value }) m.at) (reached t m.at false))
        by true e g = (f e, refl)
        by false e g = absurd (never g)

    hours : (h : Pair) → (h.good ≡ true → h.at ≡ t.at + 1 + 2) → Signed t z (zone_hours s t z h)
    hours h f = by h.good (eqb (at s h.at) (code ":")) refl
      where
        by : (b c : Bool) → h.good ≡ b → Signed t z (pick b (pick c (zone_minutes t z h (pair_at s (h.at + 1))) (reached t h.at false)) (reached t h.at false))
        by true true e = minutes h (pair_at s (h.at + 1)) (λ g. omega (arith, pair_width s (h.at + 1) g, f e))
        by true false e = λ g. absurd (never g)
        by false c e = λ g. absurd (never g)

abbrev Wide : Scan → Scan → Type 0
Wide t r = r.good ≡ true → r.at ≡ t.at + zone_width r.zone.sign

zone_width_lem : (s : List ℕ) (t : Scan) → t.zone.sign ≡ 0 → (zone_part s t).good ≡ true → (zone_part s t).at ≡ t.at + zone_width (zone_part s t).zone.sign
unfolding zone_part
zone_width_lem s t e = go (eqb (length s) t.at) (eqb (at s t.at) (code "Z")) (eqb (at s t.at) (code "+")) (eqb (at s t.at) (code "-"))
  where
    signed : (z : ℕ) → zone_width z ≡ signed_width → Wide t (zone_signed s t z)
    signed z q g = let w = signed_width_lem s t z g in w.0 ∙ ap (λ (n : ℕ). t.at + n) (sym (ap zone_width w.1 ∙ q))

    go : (a b c d : Bool) → Wide t (pick a t (pick b (with_zone_part t (record { sign = code "Z"; hours = 0; minutes = 0 }) (t.at + 1)) (pick c (zone_signed s t (code "+")) (pick d (zone_signed s t (code "-")) (reached t t.at false)))))
    go true b c d = λ g. let z : zone_width t.zone.sign ≡ 0 = ap zone_width e in omega arith
    go false true c d = λ g. refl
    go false false true d = signed (code "+") refl
    go false false false true = signed (code "-") refl
    go false false false false = λ g. absurd (never g)

-- WHERE THE ZONE STARTS: it is the last part, so that it is told from where the text ends
pub zone_starts : (keep : ℕ → ℕ) (ps s : List ℕ) (t : Scan) → all_pass (is_not (code "z")) ps ≡ true → t.zone.sign ≡ 0 → (scanned keep (ps ++ code "z" ∷ []) s t).good ≡ true
    → (scanned keep (ps ++ code "z" ∷ []) s t).at ≡ (scanned keep ps s t).at + zone_width (scanned keep (ps ++ code "z" ∷ []) s t).zone.sign
unfolding scanned part_at
zone_starts keep ps s t m e g = found r.good refl
  where
    r : Scan
    r = scanned keep ps s t

    w : Scan
    w = scanned keep (ps ++ code "z" ∷ []) s t

    two : w ≡ scanned_part keep (code "z") s r
    two = in_two keep ps (code "z" ∷ []) s t

    found : (b : Bool) → r.good ≡ b → w.at ≡ r.at + zone_width w.zone.sign
    found true q =
        let z : w ≡ zone_part s r = two ∙ (λ i. pick (q i) (zone_part s r) r) in
        let k : r.zone.sign ≡ 0 = lasts NoZone (λ t i g a. a) keep (no_zone_yet ps m) s t e in
        ap (λ (x : Scan). x.at) z ∙ zone_width_lem s r k (ap (λ (x : Scan). x.good) (sym z) ∙ g) ∙ ap (λ (x : Scan). r.at + zone_width x.zone.sign) (sym z)
    found false q = absurd (never (sym q ∙ good_before keep (code "z" ∷ []) s r (ap (λ (x : Scan). x.good) (sym (in_two keep ps (code "z" ∷ []) s t)) ∙ g)))
