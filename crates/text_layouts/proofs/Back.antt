-- Each part that was written is found again, wherever it stands: what is left of the text from the part's offset on is the
-- part's text and what follows it.
use Rattle.std.specs.Prelude.{None, Option, Some}
use mathlib.Core.Path.{◌≡◌, refl, ap, sym, ◌∙◌}
use mathlib.Core.Bool.{Bool, true, false}
use mathlib.Core.List.{List, [], ◌∷◌, ◌++◌, append_assoc, append-nil}
use mathlib.Core.Logic.{◌⊎◌, inl, inr}
use Prim.Native.Nat.{ℕ, ◌+◌, ◌-◌, ◌*◌, ◌/◌, ◌%◌, ◌≤◌, ◌<◌}
use Prim.Native.Char.{code}
use native.Mathlib.Omega.{arith}
use lib.Dec.{eqb}
use lib.ListN.{length, get_or, drop}
use borrow.Author.Tests.{eq-eqb, ne_eqb, eqb-true}
use Rattle.basis.specs.Choice.{both, every}
use Rattle.basis.proofs.Tests.{both_left, both_right}
use Rattle.value.specs.Bounds.{max_year, max_zone, second_ticks}
use Rattle.value.specs.Values.{ok_zone}
use Rattle.value.specs.declared.Offset.TheVariants.{East, West}
use Rattle.value_instants.proofs.Within.{east_to, west_to}
use Rattle.numerals.specs.Reading.{is_digit, number, numeral_at, at, fraction_digits, fraction_at}
use Rattle.numerals.specs.Writing.{digits}
use Rattle.numerals.proofs.Positions.{cell, head, beyond, none_left, some_left}
use Rattle.numerals.proofs.Stretches.{is_digit_lem}
use Rattle.numerals.proofs.Decimals.{length_digits, two_cells, four_pairs, digits_stretch}
use Rattle.numerals.proofs.Stripping.{strip_some}
use Rattle.numerals.proofs.Fractions.{kept, kept_length, fraction_back}
use Rattle.text_scan.specs.Scanning.{Scan, uncapped, four_zeros, pair_at, year_at, year_part, fraction_part, zone_part, zone_signed, with_year, with_fraction, with_zone_part}
use Rattle.text_layouts.specs.Writing.{hhmm, zone_text}
use Rattle.text_layouts.proofs.Keeping.{zone_kept}
use Rattle.value.specs.declared.Offset.{Offset}

-- the text that follows begins with no digit and no point
pub record Quiet (rest : List ℕ) : Type 0 where
  pub no_digit : is_digit (get_or rest 0 0) ≡ false
  pub no_point : get_or rest 0 0 ≡ code "." → ⊥

module _ (s : List ℕ) (i n : ℕ) (rest : List ℕ) (h : n < 100) (e : drop i s ≡ digits 2 n ++ rest) where
  pub pair_cells : drop i s ≡ (code "0" + n / 10) ∷ (code "0" + n % 10) ∷ rest
  pair_cells = e ∙ ap (λ (l : List ℕ). l ++ rest) (two_cells n h)

  pub pair_back : pair_at s i ≡ record { value = n; at = i + 2; good = true }
  unfolding pair_at
  pair_back =
      let a : at s i ≡ code "0" + n / 10 = head s i pair_cells in
      let b : at s (i + 1) ≡ code "0" + n % 10 = cell s i pair_cells 1 in
      let v : (code "0" + n / 10 - code "0") * 10 + (code "0" + n % 10 - code "0") ≡ n = omega arith in
      rw (a, b, is_digit_lem (n / 10) (omega arith), is_digit_lem (n % 10) (omega arith), v)

  pub pair_beyond : drop (i + 2) s ≡ rest
  pair_beyond = ap (λ (k : ℕ). drop (i + k) s) (sym (length_digits 2 n)) ∙ beyond s i (digits 2 n) rest e

module _ (s : List ℕ) (i y : ℕ) (rest : List ℕ) (from : 1 ≤ y) (to : y ≤ max_year) (q : is_digit (get_or rest 0 0) ≡ false) (e : drop i s ≡ digits 4 y ++ rest) where
  halves : drop i s ≡ digits 2 (y / 100) ++ (digits 2 (y % 100) ++ rest)
  halves = e ∙ ap (λ (l : List ℕ). l ++ rest) (four_pairs y) ∙ append_assoc (digits 2 (y / 100)) (digits 2 (y % 100)) rest

  four : numeral_at s i ≡ record { value = y; count = 4 }
  four = ap (number 0 0) e ∙ digits_stretch 4 y rest (omega arith) q

  -- the four bytes; a year that is not 0 has one that is not 0
  bytes_are : (at s i ≡ code "0" + y / 100 / 10) × (at s (i + 1) ≡ code "0" + y / 100 % 10) × (at s (i + 2) ≡ code "0" + y % 100 / 10) × (at s (i + 3) ≡ code "0" + y % 100 % 10)
  bytes_are =
      let a : drop i s ≡ (code "0" + y / 100 / 10) ∷ (code "0" + y / 100 % 10) ∷ (digits 2 (y % 100) ++ rest) = pair_cells s i (y / 100) (digits 2 (y % 100) ++ rest) (omega arith) halves in
      let b : drop (i + 2) s ≡ digits 2 (y % 100) ++ rest = pair_beyond s i (y / 100) (digits 2 (y % 100) ++ rest) (omega arith) halves in
      let c : drop (i + 2) s ≡ (code "0" + y % 100 / 10) ∷ (code "0" + y % 100 % 10) ∷ rest = pair_cells s (i + 2) (y % 100) rest (omega arith) b in
      let f : i + 3 ≡ i + 2 + 1 = omega arith in
      (head s i a, cell s i a 1, head s (i + 2) c, ap (λ (k : ℕ). at s k) f ∙ cell s (i + 2) c 1)

  some : four_zeros s i ≡ false
  unfolding four_zeros every
  some = go (four_zeros s i) refl
    where
      go : (b : Bool) → four_zeros s i ≡ b → four_zeros s i ≡ false
      go true z =
          let c = bytes_are in
          let z1 = both_right _ _ z in
          let z2 = both_right _ _ z1 in
          let a0 : at s i ≡ code "0" = eqb-true _ _ (both_left _ _ z) in
          let a1 : at s (i + 1) ≡ code "0" = eqb-true _ _ (both_left _ _ z1) in
          let a2 : at s (i + 2) ≡ code "0" = eqb-true _ _ (both_left _ _ z2) in
          let a3 : at s (i + 3) ≡ code "0" = eqb-true _ _ (both_left _ _ (both_right _ _ z2)) in
          let n : ◌≡◌ {A = ℕ} 0 1 = omega (arith, c.0, c.1, c.2, c.3) in
          cc
      go false z = z

  year_is_lem : year_at uncapped s i ≡ record { value = y; at = i + 4; good = true }
  unfolding year_at both
  year_is_lem = rw (four, some)

  first : at s i ≡ code "0" + y / 100 / 10
  first = head s i (pair_cells s i (y / 100) (digits 2 (y % 100) ++ rest) (omega arith) halves)

module _ (s : List ℕ) (t : Scan) (rest : List ℕ) where
  pub year_back : (y : ℕ) → 1 ≤ y → y ≤ max_year → is_digit (get_or rest 0 0) ≡ false → drop t.at s ≡ digits 4 y ++ rest
      → year_part uncapped s t ≡ with_year t false (record { value = y; at = t.at + 4; good = true })
  unfolding year_part
  year_back y from to q e =
      rw (first s t.at y rest from to q e, ne_eqb (code "0" + y / 100 / 10) (code "-") (λ w. omega arith), year_is_lem s t.at y rest from to q e)

  pub no_fraction_back : Quiet rest → drop t.at s ≡ rest → fraction_part s t ≡ t
  unfolding fraction_part
  no_fraction_back q e = rw (head s t.at e, ne_eqb (get_or rest 0 0) (code ".") q.no_point)

  pub a_fraction_back : (u : ℕ) → (u ≡ 0 → ⊥) → u < second_ticks → is_digit (get_or rest 0 0) ≡ false → drop t.at s ≡ code "." ∷ (kept u ++ rest)
      → fraction_part s t ≡ with_fraction t (record { ticks = u; long = false; end = t.at + 1 + length (kept u) })
  unfolding fraction_part
  a_fraction_back u nz h q e =
      let f : fraction_at s (t.at + 1) ≡ record { ticks = u; long = false; end = t.at + 1 + length (kept u) } =
      fraction_back s (t.at + 1) u rest h q (beyond s t.at (code "." ∷ []) (kept u ++ rest) e) in
      let l : 1 ≤ length (kept u) = omega (arith, kept_length u, strip_some fraction_digits u nz h) in
      rw (head s t.at e, f, ne_eqb (t.at + 1 + length (kept u)) (t.at + 1) (λ z. omega arith))

module _ (s : List ℕ) (t : Scan) (le : t.at ≤ length s) where
  signed_back : (z n : ℕ) → n ≤ max_zone → drop t.at s ≡ z ∷ hhmm n → zone_signed s t z ≡ with_zone_part t (record { sign = z; hours = n / 60; minutes = n % 60 }) (t.at + 6)
  unfolding zone_signed
  signed_back z n h e =
      let i : ℕ = t.at + 1 in
      let f : drop i s ≡ digits 2 (n / 60) ++ (code ":" ∷ digits 2 (n % 60)) = beyond s t.at (z ∷ []) (hhmm n) e in
      let a : pair_at s i ≡ record { value = n / 60; at = i + 2; good = true } = pair_back s i (n / 60) (code ":" ∷ digits 2 (n % 60)) (omega arith) f in
      let g : drop (i + 2) s ≡ code ":" ∷ digits 2 (n % 60) = pair_beyond s i (n / 60) (code ":" ∷ digits 2 (n % 60)) (omega arith) f in
      let c : at s (i + 2) ≡ code ":" = head s (i + 2) g in
      let k : drop (i + 2 + 1) s ≡ digits 2 (n % 60) ++ [] = beyond s (i + 2) (code ":" ∷ []) (digits 2 (n % 60)) g ∙ sym (append-nil (digits 2 (n % 60))) in
      let b : pair_at s (i + 2 + 1) ≡ record { value = n % 60; at = i + 2 + 1 + 2; good = true } = pair_back s (i + 2 + 1) (n % 60) [] (omega arith) k in
      let j : t.at + 1 + 2 + 1 + 2 ≡ t.at + 6 = omega arith in
      rw (a, c, b, j)

  signed_zone : (z n : ℕ) → n ≤ max_zone → drop t.at s ≡ z ∷ hhmm n → (z ≡ code "+") ⊎ (z ≡ code "-") → zone_part s t ≡ with_zone_part t (record { sign = z; hours = n / 60; minutes = n % 60 }) (t.at + 6)
  unfolding zone_part
  signed_zone z n h e (inl y) = rw (ne_eqb (length s) t.at (some_left s t.at le z (hhmm n) e), head s t.at e, y) (rw y at (signed_back z n h e))
  signed_zone z n h e (inr y) = rw (ne_eqb (length s) t.at (some_left s t.at le z (hhmm n) e), head s t.at e, y) (rw y at (signed_back z n h e))

  pub zone_back : (z : Option Offset) → ok_zone z ≡ true → drop t.at s ≡ zone_text z → zone_part s t ≡ zone_kept z t (t.at + length (zone_text z))
  unfolding zone_part ok_zone digits
  zone_back None g e = rw (eq-eqb (length s) t.at (none_left s t.at le e))
  zone_back (Some (East n)) g e = go (eqb n 0) refl
    where
      go : (b : Bool) → eqb n 0 ≡ b → zone_part s t ≡ zone_kept (Some (East n)) t (t.at + length (zone_text (Some (East n))))
      go true q =
          let f : drop t.at s ≡ code "Z" ∷ [] = rw q at e in
          rw (q, ne_eqb (length s) t.at (some_left s t.at le (code "Z") [] f), head s t.at f)
      go false q = rw q (signed_zone (code "+") n (east_to (East n) g) (rw q at e) (inl refl))
  zone_back (Some (West n)) g e = signed_zone (code "-") n (west_to (West n) g) e (inr refl)
