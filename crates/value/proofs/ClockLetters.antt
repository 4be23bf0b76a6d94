-- Of a row that passes its test the letters of the clock stand together, and a clock stands with the whole date or with
-- none of it.
use mathlib.Core.Path.{◌≡◌, refl, sym, ◌∙◌}
use mathlib.Core.Bool.{Bool, true, false}
use mathlib.Core.List.{List}
use Prim.Native.Nat.{ℕ}
use Prim.Native.Char.{code}
use Rattle.basis.specs.Choice.{pick, every}
use Rattle.basis.proofs.Tests.{both_left, both_right}
use Rattle.value.specs.Rows.{has}
use Rattle.value.specs.declared.DateTime.{DateTime}
use Rattle.value.proofs.RowTests.{together, clock_whole, ok_row}
use Rattle.value.proofs.RowLaws.{row_clocks}

both_or_neither : (a b : Bool) → together a b ≡ true → a ≡ b
both_or_neither true b e = sym e
both_or_neither false true e = e
both_or_neither false false e = refl

module _ (ps : List ℕ) (t : DateTime) (r : ok_row ps t ≡ true) where
  pub with_minute : has ps (code "h") ≡ has ps (code "m")
  unfolding clock_whole every
  with_minute = both_or_neither (has ps (code "h")) (has ps (code "m")) (both_left _ _ (row_clocks ps t r))

  pub with_second_lem : has ps (code "h") ≡ has ps (code "s")
  unfolding clock_whole every
  with_second_lem = both_or_neither (has ps (code "h")) (has ps (code "s")) (both_left _ _ (both_right _ _ (row_clocks ps t r)))

  pub with_fraction_lem : has ps (code "h") ≡ has ps (code "f")
  unfolding clock_whole every
  with_fraction_lem = both_or_neither (has ps (code "h")) (has ps (code "f")) (both_left _ _ (both_right _ _ (both_right _ _ (row_clocks ps t r))))

  module _ (c : has ps (code "h") ≡ true) where
    pub with_month : has ps (code "Y") ≡ has ps (code "M")
    unfolding clock_whole every
    with_month =
        let e : pick (has ps (code "h")) (together (has ps (code "Y")) (has ps (code "M"))) true ≡ true = both_left _ _ (both_right _ _ (both_right _ _ (both_right _ _ (row_clocks ps t r)))) in
        both_or_neither (has ps (code "Y")) (has ps (code "M")) (sym (λ i. pick (c i) (together (has ps (code "Y")) (has ps (code "M"))) true) ∙ e)

    pub with_day : has ps (code "Y") ≡ has ps (code "D")
    unfolding clock_whole every
    with_day =
        let e : pick (has ps (code "h")) (together (has ps (code "Y")) (has ps (code "D"))) true ≡ true = both_left _ _ (both_right _ _ (both_right _ _ (both_right _ _ (both_right _ _ (row_clocks ps t r))))) in
        both_or_neither (has ps (code "Y")) (has ps (code "D")) (sym (λ i. pick (c i) (together (has ps (code "Y")) (has ps (code "D"))) true) ∙ e)
