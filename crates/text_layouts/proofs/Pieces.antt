-- The texts of the parts, and how long they can be; and a text that grows along a layout.
use Rattle.std.specs.Prelude.{None, Option, Some}
use mathlib.Core.Path.{◌≡◌, refl, ap, sym, ◌∙◌}
use mathlib.Core.Bool.{Bool, true, false}
use mathlib.Core.List.{List, [], ◌∷◌, ◌++◌, append_assoc, append-nil}
use Prim.Native.Nat.{ℕ, suc, ◌+◌, ◌/◌, ◌%◌, ◌≤◌, ◌<◌}
use Prim.Native.Char.{code}
use native.Mathlib.Omega.{arith}
use native.Mathlib.Numerals.{add-one}
use lib.Dec.{eqb, lit≤}
use lib.ListN.{length, get_or, drop, length-append, drop_of_length-le}
use lib.Seq.{drop-cons}
use borrow.Author.Tests.{eq-eqb, ne_eqb}
use Rattle.basis.specs.Choice.{pick}
use Rattle.value.specs.Bounds.{second_ticks}
use Rattle.value.specs.Carried.{span_of}
use Rattle.value.specs.Clocks.{clock_of}
use Rattle.value.specs.Rows.{layout_of}
use Rattle.value.specs.declared.Offset.{Offset}
use Rattle.value.specs.declared.Offset.TheVariants.{East, West}
use Rattle.value.specs.declared.DateTime.{DateTime}
use Rattle.value.specs.declared.Span.{Span}
use Rattle.value.specs.declared.Kind.{Kind}
use Rattle.value.specs.declared.Kind.TheVariants as KV
use Rattle.numerals.specs.Reading.{fraction_digits}
use Rattle.numerals.specs.Writing.{digits, fraction_text, longest}
use Rattle.numerals.proofs.Decimals.{length_digits}
use Rattle.numerals.proofs.Fractions.{fraction_short}
use Rattle.text_scan.specs.Scanning.{is_pair}
use Rattle.text_scan.specs.Carried.{signed_width, width, widths}
use Rattle.text_layouts.specs.Writing.{hhmm, zone_text, pair_of, part_text, layout_text}

-- the text of an offset, by its cases
hhmm_length : (n : ℕ) → length (hhmm n) ≡ 5
hhmm_length n = length-append (digits 2 (n / 60)) (code ":" ∷ digits 2 (n % 60)) ∙ omega (arith, length_digits 2 (n / 60), length_digits 2 (n % 60))

pub zone_short : (z : Option Offset) → length (zone_text z) ≤ signed_width
zone_short None = lit≤ tt
zone_short (Some (East n)) = go (eqb n 0)
  where
    go : (b : Bool) → length (pick b (code "Z" ∷ []) (code "+" ∷ hhmm n)) ≤ signed_width
    go true = lit≤ tt
    go false = omega (arith, hhmm_length n)
zone_short (Some (West n)) = omega (arith, hhmm_length n)

-- a number of two digits of the clock, from the whole seconds of a time of day
module _ (p : ℕ) (d : DateTime) {c : Span} (e : c ≡ span_of (clock_of d)) where
  whole : c.seconds ≡ clock_of d / second_ticks
  whole = ap (λ (x : Span). x.seconds) e

  pub pair_hour : p ≡ code "h" → c.seconds / 3600 ≡ pair_of p d
  unfolding pair_of
  pair_hour q = omega (arith, whole, ap (λ (x : ℕ). pair_of x d) q)

  pub pair_minute : p ≡ code "m" → c.seconds / 60 % 60 ≡ pair_of p d
  unfolding pair_of
  pair_minute q = omega (arith, whole, ap (λ (x : ℕ). pair_of x d) q)

  pub pair_second : (p ≡ code "M" → ⊥) → (p ≡ code "D" → ⊥) → (p ≡ code "h" → ⊥) → (p ≡ code "m" → ⊥) → c.seconds % 60 ≡ pair_of p d
  unfolding pair_of
  pair_second i j k l = rw (ne_eqb p (code "M") i, ne_eqb p (code "D") j, ne_eqb p (code "h") k, ne_eqb p (code "m") l) (ap (λ (x : ℕ). x % 60) whole)

-- a part's text, by its letter
module _ (p : ℕ) (d : DateTime) where
  pub text_year : p ≡ code "Y" → (part_text p d ≡ digits 4 d.year) × (width p ≡ 4)
  unfolding part_text width
  text_year e = (rw (eq-eqb p (code "Y") e), rw (eq-eqb p (code "Y") e))

  module _ (a : p ≡ code "Y" → ⊥) where
    pub text_fraction : p ≡ code "f" → (part_text p d ≡ fraction_text (clock_of d % second_ticks)) × (width p ≡ 1 + fraction_digits)
    unfolding part_text width
    text_fraction e = (rw (ne_eqb p (code "Y") a, eq-eqb p (code "f") e), rw (ne_eqb p (code "Y") a, eq-eqb p (code "f") e))

    module _ (b : p ≡ code "f" → ⊥) where
      pub text_zone : p ≡ code "z" → (part_text p d ≡ zone_text d.zone) × (width p ≡ signed_width)
      unfolding part_text width
      text_zone e = (rw (ne_eqb p (code "Y") a, ne_eqb p (code "f") b, eq-eqb p (code "z") e), rw (ne_eqb p (code "Y") a, ne_eqb p (code "f") b, eq-eqb p (code "z") e))

      module _ (f : p ≡ code "z" → ⊥) {r : Bool} (er : r ≡ is_pair p) where
        pub text_pair : r ≡ true → (part_text p d ≡ digits 2 (pair_of p d)) × (width p ≡ 2)
        unfolding part_text width
        text_pair e = (rw (ne_eqb p (code "Y") a, ne_eqb p (code "f") b, ne_eqb p (code "z") f, sym er ∙ e), rw (ne_eqb p (code "Y") a, ne_eqb p (code "f") b, ne_eqb p (code "z") f, sym er ∙ e))

        pub text_mark : r ≡ false → (part_text p d ≡ p ∷ []) × (width p ≡ 1)
        unfolding part_text width
        text_mark e = (rw (ne_eqb p (code "Y") a, ne_eqb p (code "f") b, ne_eqb p (code "z") f, sym er ∙ e), rw (ne_eqb p (code "Y") a, ne_eqb p (code "f") b, ne_eqb p (code "z") f, sym er ∙ e))

pub text_short : (p : ℕ) (d : DateTime) → length (part_text p d) ≤ width p
unfolding part_text width
text_short p d = go (eqb p (code "Y")) (eqb p (code "f")) (eqb p (code "z")) (is_pair p) refl refl refl refl
  where
    go : (a b c f : Bool) → eqb p (code "Y") ≡ a → eqb p (code "f") ≡ b → eqb p (code "z") ≡ c → is_pair p ≡ f → length (part_text p d) ≤ width p
    go true b c f e g h i = rw e (omega (arith, length_digits 4 d.year))
    go false true c f e g h i = rw (e, g) (fraction_short (clock_of d % second_ticks))
    go false false true f e g h i = rw (e, g, h) (zone_short d.zone)
    go false false false true e g h i = rw (e, g, h, i) (omega (arith, length_digits 2 (pair_of p d)))
    go false false false false e g h i = rw (e, g, h, i) (lit≤ tt)

-- going through a layout
pub record Grown (layout : List ℕ) (d : DateTime) (t : List ℕ) (k : ℕ) : Type 0 where
  pub room : length t + widths (drop k layout) ≤ longest
  pub text : t ++ layout_text (drop k layout) d ≡ layout_text layout d

module _ (layout : List ℕ) (d : DateTime) {t : List ℕ} (k : ℕ) (g : Grown layout d t k) where
  pub part_fits : k < length layout → length t + width (get_or layout k 0) ≤ longest
  unfolding widths
  part_fits h = let e : widths (drop k layout) ≡ width (get_or layout k 0) + widths (drop (suc k) layout) = rw (drop-cons layout k 0 h, widths) in omega (arith, g.room)

  pub step : k < length layout → {r : List ℕ} → r ≡ t ++ part_text (get_or layout k 0) d → Grown layout d r (k + 1)
  unfolding layout_text widths
  step h {r} a =
      let p : ℕ = get_or layout k 0 in
      let y : List ℕ = layout_text (drop (suc k) layout) d in
      let e : layout_text (drop k layout) d ≡ part_text p d ++ y = rw (drop-cons layout k 0 h, layout_text) in
      let w : widths (drop k layout) ≡ width p + widths (drop (suc k) layout) = rw (drop-cons layout k 0 h, widths) in
      rw (add-one, a) (record {
        room = omega (arith, g.room, text_short p d, length-append t (part_text p d));
        text = append_assoc t (part_text p d) y ∙ ap (λ (q : List ℕ). t ++ q) (sym e) ∙ g.text;
      })

  pub finish : length layout ≤ k → t ≡ layout_text layout d
  unfolding layout_text
  finish h =
      let e : layout_text (drop k layout) d ≡ [] = rw (drop_of_length-le layout h) in
      sym (append-nil t) ∙ ap (λ (q : List ℕ). t ++ q) (sym e) ∙ g.text

-- every row leaves room for its parts
pub wide : (k : Kind) → widths (layout_of k) ≤ longest
unfolding widths width is_pair
wide KV.Date = omega arith
wide KV.Time = omega arith
wide KV.DateTime = omega arith
wide KV.DayTimeDuration = omega arith
wide KV.YearMonthDuration = omega arith

pub roomy : (k : Kind) {ps : List ℕ} → ps ≡ layout_of k → widths ps ≤ longest
roomy k e = rw e (wide k)
