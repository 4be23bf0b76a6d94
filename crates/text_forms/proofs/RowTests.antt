-- What the rows of the durations pass by computing: the components of a form count one sum alone, and a kind has a layout or
-- a form.
use mathlib.Core.Path.{◌≡◌, refl}
use mathlib.Core.Bool.{Bool, true, false, not}
use mathlib.Core.List.{◌++◌}
use Prim.Native.Nat.{ℕ}
use lib.Dec.{ltb}
use lib.ListN.{length}
use Rattle.basis.specs.Choice.{pick, both, all_pass}
use Rattle.basis.proofs.Tests.{never}
use Rattle.value.specs.Rows.{has, is_moment}
use Rattle.value.specs.declared.Kind.{Kind}
use Rattle.value.specs.declared.Kind.TheVariants as KV
use Rattle.text_forms.specs.Forms.{Form, counts_months, no_form, duration_form, form_months}

-- all components count months, or none does
abbrev pub one_alone : Form → Bool
one_alone f =
    pick (form_months f)
    (both (all_pass (λ (c : ℕ). counts_months false c) f.before) (all_pass (λ (c : ℕ). counts_months true c) f.after))
    (both (all_pass (λ (c : ℕ). not (counts_months false c)) f.before) (all_pass (λ (c : ℕ). not (counts_months true c)) f.after))

pub rows_alone : (k : Kind) → one_alone (duration_form k) ≡ true
unfolding has both
rows_alone KV.Date = refl
rows_alone KV.Time = refl
rows_alone KV.DateTime = refl
rows_alone KV.DayTimeDuration = refl
rows_alone KV.YearMonthDuration = refl

-- a kind that has a layout has no form, and one that has none has one
rows_either : (k : Kind) → ltb 0 (length ((duration_form k).before ++ (duration_form k).after)) ≡ not (is_moment k)
unfolding is_moment
rows_either KV.Date = refl
rows_either KV.Time = refl
rows_either KV.DateTime = refl
rows_either KV.DayTimeDuration = refl
rows_either KV.YearMonthDuration = refl

pub rows_none : (k : Kind) → is_moment k ≡ true → duration_form k ≡ no_form
unfolding is_moment
rows_none KV.Date e = refl
rows_none KV.Time e = refl
rows_none KV.DateTime e = refl
rows_none KV.DayTimeDuration e = absurd (never e)
rows_none KV.YearMonthDuration e = absurd (never e)
