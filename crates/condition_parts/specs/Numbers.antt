-- Document 01, "Refusal numbers": the numbers that a value's text can be refused with, and those that a condition's result at
-- a row can have.
use Rattle.std.specs.Prelude.{Bool, true, ℕ, eqb}
use Rattle.basis.specs.Choice.{pick}
use Rattle.value.specs.Refusals.{bad_text, beyond_bounds, long_fraction, beyond_result, no_field}

-- 1 no shape, or bad calendar or clock; 2 beyond bounds; 3 over nine fraction digits
abbrev pub of_text : ℕ → Bool
of_text n = pick (eqb n bad_text) true (pick (eqb n beyond_bounds) true (eqb n long_fraction))

-- those of a field's text, 4 of arithmetic, and 6 where the row has too few fields
abbrev pub at_row : ℕ → Bool
at_row n =
    pick (eqb n bad_text) true (pick (eqb n beyond_bounds) true (pick (eqb n long_fraction) true (pick (eqb n beyond_result) true (eqb n no_field))))
