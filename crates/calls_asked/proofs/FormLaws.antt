-- Which call a line is: the number of its fields, the kinds that it names, and what stands in them.
use mathlib.Core.Path.{◌≡◌, refl, ap, sym, ◌∙◌}
use mathlib.Core.Bool.{Bool, true, false, not}
use mathlib.Core.List.{List}
use Prim.Native.Nat.{ℕ, ◌+◌, ◌≤◌, ◌<◌}
use native.Mathlib.Omega.{arith}
use lib.Dec.{eqb, leb}
use lib.ListN.{length}
use borrow.Author.Tests.{le-leb, leb-true, leb-false, eq-eqb, ne_eqb}
use Rattle.std.specs.Prelude.{Option}
use Rattle.basis.specs.Choice.{pick, both}
use Rattle.basis.proofs.Tests.{no, yes}
use Rattle.timetable.specs.Fields.{fields_of, has_field, field_at}
use Rattle.value.specs.declared.Kind.{Kind}
use Rattle.condition_symbols.specs.Symbols.{named}
use Rattle.calls_asked.specs.declared.One.{One}
use Rattle.calls_asked.specs.declared.Two.{Two}
use Rattle.calls_asked.specs.declared.CallForm.TheVariants as F
use Rattle.calls_asked.specs.Asked.{exactly, is_whole, one_by, one_form, two_by, two_form, product_by, product_form, cast_by, cast_form}

module _ (line : List ℕ) (n : ℕ) (h : 1 ≤ n) where
  has_field_lem : has_field line n ≡ leb n (length (fields_of line))
  unfolding has_field both
  has_field_lem = rw (le-leb 1 n h)

module _ (line : List ℕ) (n : ℕ) (h : 1 ≤ n) {t : Bool} (e : t ≡ has_field line n) where
  pub too_few : t ≡ false → false ≡ exactly line n
  unfolding exactly
  too_few q =
      let l : length (fields_of line) < n = leb-false n _ (sym (has_field_lem line n h) ∙ no e q) in
      sym (ne_eqb (length (fields_of line)) n (λ x. omega arith))

  pub enough : t ≡ true → {u : Bool} → u ≡ has_field line (n + 1) → not u ≡ exactly line n
  unfolding exactly
  enough q {u} f =
      let l : n ≤ length (fields_of line) = leb-true n _ (sym (has_field_lem line n h) ∙ yes e q) in
      ap not (f ∙ has_field_lem line (n + 1) (omega arith)) ∙ go l (leb (n + 1) (length (fields_of line))) refl
    where
      go : n ≤ length (fields_of line) → (b : Bool) → leb (n + 1) (length (fields_of line)) ≡ b → not b ≡ eqb (length (fields_of line)) n
      go l true z = let k : n + 1 ≤ length (fields_of line) = leb-true _ _ z in sym (ne_eqb (length (fields_of line)) n (λ x. omega arith))
      go l false z = let k : length (fields_of line) < n + 1 = leb-false _ _ z in sym (eq-eqb (length (fields_of line)) n (omega arith))

-- the kind that a field names
pub names : (line : List ℕ) (i : ℕ) {f : List ℕ} {x y : Option Kind} → f ≡ field_at line i → x ≡ named f → x ≡ y → y ≡ named (field_at line i)
names line i ef en ey = sym ey ∙ en ∙ ap named ef

module _ (line : List ℕ) {t : Bool} where
  module _ (o : One) (e : t ≡ exactly line 3) where
    pub no_one : t ≡ false → F.No ≡ one_form line o
    unfolding one_form
    no_one q = sym (λ i. pick (no e q i) (one_by o (named (field_at line 2))) F.No)

    pub is_one : t ≡ true → {y : Option Kind} → y ≡ named (field_at line 2) → one_by o y ≡ one_form line o
    unfolding one_form
    is_one q ey = ap (one_by o) ey ∙ sym (λ i. pick (yes e q i) (one_by o (named (field_at line 2))) F.No)

  module _ (o : Two) (e : t ≡ exactly line 5) where
    pub no_two : t ≡ false → F.No ≡ two_form line o
    unfolding two_form
    no_two q = sym (λ i. pick (no e q i) (two_by o (named (field_at line 2)) (named (field_at line 4))) F.No)

    pub is_two : t ≡ true → {y z : Option Kind} → y ≡ named (field_at line 2) → z ≡ named (field_at line 4) → two_by o y z ≡ two_form line o
    unfolding two_form
    is_two q ey ez = (λ i. two_by o (ey i) (ez i)) ∙ sym (λ i. pick (yes e q i) (two_by o (named (field_at line 2)) (named (field_at line 4))) F.No)

  module _ (e : t ≡ exactly line 4) where
    pub no_product : t ≡ false → F.No ≡ product_form line
    unfolding product_form
    no_product q = sym (λ i. pick (no e q i) (product_by (is_whole (field_at line 4)) (named (field_at line 2))) F.No)

    pub is_product : t ≡ true → {b : Bool} {y : Option Kind} → b ≡ is_whole (field_at line 4) → y ≡ named (field_at line 2) → product_by b y ≡ product_form line
    unfolding product_form
    is_product q eb ey = (λ i. product_by (eb i) (ey i)) ∙ sym (λ i. pick (yes e q i) (product_by (is_whole (field_at line 4)) (named (field_at line 2))) F.No)

    pub no_cast : t ≡ false → F.No ≡ cast_form line
    unfolding cast_form
    no_cast q = sym (λ i. pick (no e q i) (cast_by (named (field_at line 2)) (named (field_at line 4))) F.No)

    pub is_cast : t ≡ true → {y z : Option Kind} → y ≡ named (field_at line 2) → z ≡ named (field_at line 4) → cast_by y z ≡ cast_form line
    unfolding cast_form
    is_cast q ey ez = (λ i. cast_by (ey i) (ez i)) ∙ sym (λ i. pick (yes e q i) (cast_by (named (field_at line 2)) (named (field_at line 4))) F.No)
