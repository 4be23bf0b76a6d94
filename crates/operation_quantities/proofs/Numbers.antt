-- A record placed at a local time is refused with 4 alone.
use Rattle.std.specs.Prelude.{None, Option, Some}
use mathlib.Core.Path.{◌≡◌, refl}
use mathlib.Core.Bool.{true}
use mathlib.Core.List.{List}
use Prim.Native.Nat.{ℕ}
use Rattle.basis.specs.Choice.{among}
use Rattle.value.specs.Refusals.{beyond_result}
use Rattle.value_instants.specs.Ticks.{placed_at}
use Rattle.value.specs.declared.Kind.{Kind}
use Rattle.value.proofs.Numbers.{only}
use Rattle.operation_quantities.specs.Results.{at_ticks, of_placed}
use Rattle.value.specs.declared.DateTime.{DateTime}
use Rattle.value.specs.declared.Offset.{Offset}

pub placed_numbers : (ns : List ℕ) → among ns beyond_result ≡ true → (k : Kind) (t : ℕ) (z : Option Offset) → only ns (at_ticks k t z) ≡ true
unfolding at_ticks
placed_numbers ns h k t z = go (placed_at t z)
  where
    go : (x : Option DateTime) → only ns (of_placed k x) ≡ true
    go (Some d) = refl
    go None = h
