-- The casts that there are, from each kind to all five, by computing.
use mathlib.Core.Path.{◌≡◌, refl}
use mathlib.Core.Bool.{Bool, true, false}
use mathlib.Core.List.{List, [], ◌∷◌}
use Rattle.basis.specs.Choice.{both, every}
use Rattle.value.specs.Rows.{has, is_moment, is_dated}
use Rattle.value.specs.declared.Kind.{Kind}
use Rattle.value.specs.declared.Kind.TheVariants as KV
use Rattle.operation_casting.specs.Casts.{own_within, casts_across, casts_to}

abbrev from : Kind → List Bool
from k = each (KV.Date ∷ KV.Time ∷ KV.DateTime ∷ KV.DayTimeDuration ∷ KV.YearMonthDuration ∷ [])
  where
    each : List Kind → List Bool
    each [] = []
    each (j ∷ js) = casts_to k j ∷ each js

casts :
    (from KV.Date ≡ (true ∷ false ∷ true ∷ false ∷ false ∷ []))
    × (from KV.Time ≡ (false ∷ true ∷ false ∷ false ∷ false ∷ []))
    × (from KV.DateTime ≡ (true ∷ true ∷ true ∷ false ∷ false ∷ []))
    × (from KV.DayTimeDuration ≡ (false ∷ false ∷ false ∷ true ∷ false ∷ []))
    × (from KV.YearMonthDuration ≡ (false ∷ false ∷ false ∷ false ∷ true ∷ []))
unfolding casts_to casts_across own_within is_moment is_dated has every both
casts = (refl, refl, refl, refl, refl)
