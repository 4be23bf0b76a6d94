-- Document 01, "Operations": a duration times a whole number -999,999 to 999,999. The number is a sign and a magnitude.
use Rattle.std.specs.Prelude.{Bool, ℕ, ◌*◌, leb}
use Rattle.basis.specs.Choice.{pick, both}
use Rattle.basis.specs.Answer.{Answer, refuses}
use Rattle.value.specs.Refusals.{wrong_kind, outside}
use Rattle.value.specs.Durations.{plus_half, minus_half, plus_ticks, minus_ticks}
use Rattle.value.specs.Kinds.{ok_value}
use Rattle.value.specs.declared.Value.{Value}
use Rattle.value.specs.declared.Value.TheVariants.{Moment, DayTime, YearMonth}
use Rattle.operation_quantities.specs.Results.{in_ticks, in_months}

abbrev pub max_factor : ℕ
max_factor = 999_999

-- (p - q) times n; times -n it is (q - p) times n
abbrev pub signed_times : (ℕ → ℕ → Answer Value) → Bool → ℕ → ℕ → ℕ → Answer Value
signed_times result negative n p q = pick negative (result (q * n) (p * n)) (result (p * n) (q * n))

unfoldable pub product_of : Value → Bool → ℕ → Answer Value
product_of (Moment k d) negative n = refuses wrong_kind
product_of (DayTime t) negative n = signed_times in_ticks negative n (plus_ticks t) (minus_ticks t)
product_of (YearMonth m) negative n = signed_times in_months negative n (plus_half m.negative m.months) (minus_half m.negative m.months)

unfoldable pub times_of : Value → Bool → ℕ → Answer Value
times_of a negative n = pick (both (ok_value a) (leb n max_factor)) (product_of a negative n) (refuses outside)
