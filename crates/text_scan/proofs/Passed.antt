-- What a good scan has passed: every byte before the offset that it reached is a digit or a mark: a sign, a colon, T, Z or the point.
use mathlib.Core.Path.{◌≡◌, refl, ap, sym, subst, ◌∙◌}
use mathlib.Core.Bool.{Bool, true, false}
use mathlib.Core.List.{List, [], ◌∷◌}
use Prim.Native.Nat.{ℕ, ◌+◌}
use Prim.Native.Char.{code}
use native.Mathlib.Omega.{arith}
use lib.Dec.{eqb, ltb}
use lib.ListN.{length}
use borrow.Author.Tests.{eqb-true}
use Rattle.basis.specs.Choice.{pick, both, all_pass, among}
use Rattle.basis.specs.Letters.{bytes}
use Rattle.basis.proofs.Tests.{never, both_left, both_right}
use Rattle.value.specs.Rows.{layout_of, template_of}
use Rattle.value.specs.declared.Kind.{Kind}
use Rattle.value.specs.declared.Kind.TheVariants as KV
use Rattle.numerals.specs.Reading.{is_digit, numeral_at, at, fraction_at}
use Rattle.numerals.proofs.Passed.{Passed, passed_none, passed_byte, passed_mark, passed_digits}
use Rattle.numerals.proofs.Fractions.{fraction_end}
use Rattle.text_scan.specs.Scanning.{Scan, Pair, start_of, pair_at, four_zeros, leading_zero, year_digits, year_at, year_part, fraction_part, zone_part, zone_signed, zone_hours, zone_minutes, with_pair, with_year, with_fraction, with_zone_part, part_at, scanned_part, is_pair, reached, scanned, scanned_parts}

-- the bytes that stand in the text of a date, a time or a dateTime
abbrev pub moment_byte : ℕ → Bool
moment_byte b = pick (is_digit b) true (among (bytes "-:T.+Z") b)

-- a digit is such a byte, and so are the marks
digit_ok : (b : ℕ) → is_digit b ≡ true → moment_byte b ≡ true
digit_ok b e = rw e

-- a state that is good has passed such bytes alone
abbrev Says : List ℕ → Scan → Type 0
Says s t = t.good ≡ true → Passed moment_byte s t.at

module _ (s : List ℕ) where
  pair_passed : (i : ℕ) → Passed moment_byte s i → (pair_at s i).good ≡ true → Passed moment_byte s (pair_at s i).at
  unfolding pair_at
  pair_passed i a = go (is_digit (at s i)) (is_digit (at s (i + 1))) refl refl
    where
      go : (x y : Bool) → is_digit (at s i) ≡ x → is_digit (at s (i + 1)) ≡ y → (pair_at s i).good ≡ true → Passed moment_byte s (pair_at s i).at
      go false y p q = rw p (λ g. absurd (never g))
      go true false p q = rw (p, q) (λ g. absurd (never g))
      go true true p q = rw (p, q) (λ g. two)
        where
          two : Passed moment_byte s (i + 2)
          two j h = passed_byte moment_byte s (i + 1) (digit_ok (at s (i + 1)) q) (passed_byte moment_byte s i (digit_ok (at s i) p) a) j (omega arith)

  year_passed : (keep : ℕ → ℕ) (i : ℕ) → Passed moment_byte s i → (year_at keep s i).good ≡ true → Passed moment_byte s (year_at keep s i).at
  unfolding year_at
  year_passed keep i a = go (ltb (numeral_at s i).count year_digits) (four_zeros s i) (leading_zero s i (numeral_at s i).count) refl refl refl
    where
      go : (x y z : Bool) → ltb (numeral_at s i).count year_digits ≡ x → four_zeros s i ≡ y → leading_zero s i (numeral_at s i).count ≡ z
          → (year_at keep s i).good ≡ true → Passed moment_byte s (year_at keep s i).at
      go true y z e f h = rw e (λ g. absurd (never g))
      go false true z e f h = rw (e, f) (λ g. absurd (never g))
      go false false true e f h = rw (e, f, h) (λ g. absurd (never g))
      go false false false e f h = rw (e, f, h) (λ g. passed_digits moment_byte s digit_ok i a)

  module _ (t : Scan) (a : Passed moment_byte s t.at) where
    year_says : (keep : ℕ → ℕ) → Says s (year_part keep s t)
    unfolding year_part is_digit both
    year_says keep = go (eqb (at s t.at) (code "-")) refl
      where
        go : (x : Bool) → eqb (at s t.at) (code "-") ≡ x → Says s (pick x (with_year t true (year_at keep s (t.at + 1))) (with_year t false (year_at keep s t.at)))
        go true e = year_passed keep (t.at + 1) (passed_mark moment_byte s t.at (code "-") e refl a)
        go false e = year_passed keep t.at a

    fraction_says : t.good ≡ true → Says s (fraction_part s t)
    unfolding fraction_part is_digit both
    fraction_says good = go (eqb (at s t.at) (code ".")) (eqb (fraction_at s (t.at + 1)).end (t.at + 1)) refl
      where
        go : (x y : Bool) → eqb (at s t.at) (code ".") ≡ x
            → Says s (pick x (pick y (reached t (t.at + 1) false) (with_fraction t (fraction_at s (t.at + 1)))) t)
        go true true e g = absurd (never g)
        go true false e g =
            subst (Passed moment_byte s) (sym (fraction_end s (t.at + 1)))
            (passed_digits moment_byte s digit_ok (t.at + 1) (passed_mark moment_byte s t.at (code ".") e refl a))
        go false y e g = a

    signed_says : (z : ℕ) → moment_byte (at s t.at) ≡ true → Says s (zone_signed s t z)
    unfolding zone_signed is_digit both
    signed_says z e = hours (pair_at s (t.at + 1)) (pair_passed (t.at + 1) (passed_byte moment_byte s t.at e a))
      where
        minutes : (h m : Pair) → (m.good ≡ true → Passed moment_byte s m.at) → Says s (zone_minutes t z h m)
        minutes h m f = by m.good refl
          where
            by : (x : Bool) → m.good ≡ x → Says s (pick x (with_zone_part t (record { sign = z; hours = h.value; minutes = m.value }) m.at) (reached t m.at false))
            by true e g = f e
            by false e g = absurd (never g)

        hours : (h : Pair) → (h.good ≡ true → Passed moment_byte s h.at) → Says s (zone_hours s t z h)
        hours h f = by h.good (eqb (at s h.at) (code ":")) refl refl
          where
            by : (x y : Bool) → h.good ≡ x → eqb (at s h.at) (code ":") ≡ y
                → Says s (pick x (pick y (zone_minutes t z h (pair_at s (h.at + 1))) (reached t h.at false)) (reached t h.at false))
            by true true e q = minutes h (pair_at s (h.at + 1)) (pair_passed (h.at + 1) (passed_mark moment_byte s h.at (code ":") q refl (f e)))
            by true false e q = λ g. absurd (never g)
            by false y e q = λ g. absurd (never g)

    zone_says : Says s (zone_part s t)
    unfolding zone_part is_digit both
    zone_says = go (eqb (length s) t.at) (eqb (at s t.at) (code "Z")) (eqb (at s t.at) (code "+")) (eqb (at s t.at) (code "-")) refl refl refl
      where
        known : (c : ℕ) → eqb (at s t.at) c ≡ true → moment_byte c ≡ true → moment_byte (at s t.at) ≡ true
        known c e m = ap moment_byte (eqb-true (at s t.at) c e) ∙ m

        go : (x y z w : Bool) → eqb (at s t.at) (code "Z") ≡ y → eqb (at s t.at) (code "+") ≡ z → eqb (at s t.at) (code "-") ≡ w
            → Says s (pick x t (pick y (with_zone_part t (record { sign = code "Z"; hours = 0; minutes = 0 }) (t.at + 1)) (pick z (zone_signed s t (code "+")) (pick w (zone_signed s t (code "-")) (reached t t.at false)))))
        go true y z w e f i = λ g. a
        go false true z w e f i = λ g. passed_mark moment_byte s t.at (code "Z") e refl a
        go false false true w e f i = signed_says (code "+") (known (code "+") f refl)
        go false false false true e f i = signed_says (code "-") (known (code "-") i refl)
        go false false false false e f i = λ g. absurd (never g)

-- a letter of a layout: one of a part, or a byte that stands for itself and may stand there
abbrev ok_part : ℕ → Bool
ok_part p = pick (eqb p (code "Y")) true (pick (eqb p (code "f")) true (pick (eqb p (code "z")) true (pick (is_pair p) true (moment_byte p))))

-- the rows have such letters alone
rows_lettered : (k : Kind) → all_pass ok_part (layout_of k) ≡ true
unfolding is_pair is_digit both
rows_lettered KV.Date = refl
rows_lettered KV.Time = refl
rows_lettered KV.DateTime = refl
rows_lettered KV.DayTimeDuration = refl
rows_lettered KV.YearMonthDuration = refl

module _ (keep : ℕ → ℕ) (s : List ℕ) where
  part_says : (p : ℕ) (t : Scan) → ok_part p ≡ true → t.good ≡ true → Passed moment_byte s t.at → Says s (part_at keep p s t)
  unfolding part_at with_pair
  part_says p t l good a = go (eqb p (code "Y")) (eqb p (code "f")) (eqb p (code "z")) (is_pair p) (eqb (at s t.at) p) refl refl refl refl refl l
    where
      go : (x y z w v : Bool) → eqb p (code "Y") ≡ x → eqb p (code "f") ≡ y → eqb p (code "z") ≡ z → is_pair p ≡ w → eqb (at s t.at) p ≡ v
          → pick x true (pick y true (pick z true (pick w true (moment_byte p)))) ≡ true
          → Says s (pick x (year_part keep s t) (pick y (fraction_part s t) (pick z (zone_part s t) (pick w (with_pair p t (pair_at s t.at)) (pick v (reached t (t.at + 1) true) (reached t t.at false))))))
      go true y z w v e f h i j k = year_says s t a keep
      go false true z w v e f h i j k = fraction_says s t a good
      go false false true w v e f h i j k = zone_says s t a
      go false false false true v e f h i j k = pair_passed s t.at a
      go false false false false true e f h i j k = λ g. passed_mark moment_byte s t.at p j k a
      go false false false false false e f h i j k = λ g. absurd (never g)

  -- a scan that ends well was good all along, and has passed such bytes alone
  all_say : (ps : List ℕ) (t : Scan) → all_pass ok_part ps ≡ true → (scanned keep ps s t).good ≡ true
      → (t.good ≡ true) × (Passed moment_byte s t.at → Passed moment_byte s (scanned keep ps s t).at)
  unfolding scanned
  all_say [] t l g = (g, λ a. a)
  all_say (p ∷ ps) t l g = go t.good refl (all_say ps (scanned_part keep p s t) (both_right (ok_part p) (all_pass ok_part ps) l) g)
    where
      go : (x : Bool) → t.good ≡ x
          → ((pick x (part_at keep p s t) t).good ≡ true) × (Passed moment_byte s (pick x (part_at keep p s t) t).at → Passed moment_byte s (scanned keep ps s (scanned_part keep p s t)).at)
          → (t.good ≡ true) × (Passed moment_byte s t.at → Passed moment_byte s (scanned keep ps s (scanned_part keep p s t)).at)
      go true e r = (e, λ a. r.1 (part_says p t (both_left (ok_part p) (all_pass ok_part ps) l) e a r.0))
      go false e r = r

  pub good_passed : (k : Kind) → (scanned_parts keep k s).good ≡ true → Passed moment_byte s (scanned_parts keep k s).at
  good_passed k g = (all_say (layout_of k) (start_of (template_of k)) (rows_lettered k) g).1 (passed_none moment_byte s)
