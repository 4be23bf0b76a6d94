-- The ways through the definitions whose tests are fields of a record, with the record kept whole: one law a way out.
use mathlib.Core.Path.{◌≡◌, sym, ◌∙◌}
use mathlib.Core.Bool.{Bool, true, false}
use mathlib.Core.List.{List}
use Prim.Native.Nat.{ℕ, ◌+◌}
use Prim.Native.Char.{code}
use lib.Dec.{eqb}
use borrow.Author.Tests.{eq-eqb, ne_eqb}
use Rattle.basis.specs.Choice.{pick}
use Rattle.numerals.specs.Reading.{at}
use Rattle.text_scan.specs.Scanning.{Scan, is_pair, with_pair, year_part, fraction_part, zone_part, pair_at, part_at, scanned_part, reached}

module _ (keep : ℕ → ℕ) (p : ℕ) (s : List ℕ) (t : Scan) where
  pub on : t.good ≡ true → scanned_part keep p s t ≡ part_at keep p s t
  on e = λ i. pick (e i) (part_at keep p s t) t

  pub off : t.good ≡ false → scanned_part keep p s t ≡ t
  off e = λ i. pick (e i) (part_at keep p s t) t

module _ (keep : ℕ → ℕ) (p : ℕ) (s : List ℕ) (t : Scan) (g : t.good ≡ true) where
  pub the_year : p ≡ code "Y" → year_part keep s t ≡ scanned_part keep p s t
  unfolding part_at
  the_year a = sym (on keep p s t g ∙ rw (eq-eqb p (code "Y") a))

  module _ (a : p ≡ code "Y" → ⊥) where
    pub the_fraction : p ≡ code "f" → fraction_part s t ≡ scanned_part keep p s t
    unfolding part_at
    the_fraction b = sym (on keep p s t g ∙ rw (ne_eqb p (code "Y") a, eq-eqb p (code "f") b))

    module _ (b : p ≡ code "f" → ⊥) where
      pub the_zone : p ≡ code "z" → zone_part s t ≡ scanned_part keep p s t
      unfolding part_at
      the_zone d = sym (on keep p s t g ∙ rw (ne_eqb p (code "Y") a, ne_eqb p (code "f") b, eq-eqb p (code "z") d))

      module _ (d : p ≡ code "z" → ⊥) {r : Bool} (er : r ≡ is_pair p) where
        pub a_pair : r ≡ true → with_pair p t (pair_at s t.at) ≡ scanned_part keep p s t
        unfolding part_at
        a_pair e = sym (on keep p s t g ∙ rw (ne_eqb p (code "Y") a, ne_eqb p (code "f") b, ne_eqb p (code "z") d, sym er ∙ e))

        pub a_mark : r ≡ false → pick (eqb (at s t.at) p) (reached t (t.at + 1) true) (reached t t.at false) ≡ scanned_part keep p s t
        unfolding part_at
        a_mark e = sym (on keep p s t g ∙ rw (ne_eqb p (code "Y") a, ne_eqb p (code "f") b, ne_eqb p (code "z") d, sym er ∙ e))
