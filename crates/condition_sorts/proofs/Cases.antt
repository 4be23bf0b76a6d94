-- Which kind takes a duration of which, from each kind by all five, by computing.
use mathlib.Core.Path.{◌≡◌, refl}
use mathlib.Core.Bool.{Bool, true, false}
use mathlib.Core.List.{List, [], ◌∷◌}
use Rattle.basis.specs.Choice.{both, every}
use Rattle.value.specs.Rows.{has, is_dated, is_clocked}
use Rattle.value.specs.declared.Kind.{Kind}
use Rattle.value.specs.declared.Kind.TheVariants as KV
use Rattle.condition_sorts.specs.Sorts.{takes}

abbrev by : Kind → List Bool
by j = each (KV.Date ∷ KV.Time ∷ KV.DateTime ∷ KV.DayTimeDuration ∷ KV.YearMonthDuration ∷ [])
  where
    each : List Kind → List Bool
    each [] = []
    each (k ∷ ks) = takes j k ∷ each ks

taken :
    (by KV.Date ≡ (false ∷ false ∷ false ∷ true ∷ true ∷ []))
    × (by KV.Time ≡ (false ∷ false ∷ false ∷ true ∷ false ∷ []))
    × (by KV.DateTime ≡ (false ∷ false ∷ false ∷ true ∷ true ∷ []))
    × (by KV.DayTimeDuration ≡ (false ∷ false ∷ false ∷ false ∷ false ∷ []))
    × (by KV.YearMonthDuration ≡ (false ∷ false ∷ false ∷ false ∷ false ∷ []))
unfolding takes is_dated is_clocked has every both
taken = (refl, refl, refl, refl, refl)
