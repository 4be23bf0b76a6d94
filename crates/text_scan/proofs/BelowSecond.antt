-- The part of a second that is found is less than a second, whatever the text.
use mathlib.Core.List.{List, [], ◌∷◌}
use Prim.Native.Nat.{ℕ, ◌<◌}
use native.Mathlib.Omega.{arith}
use Rattle.value.specs.Bounds.{second_ticks}
use Rattle.value.specs.Rows.{layout_of, template_of}
use Rattle.value.specs.declared.Kind.{Kind}
use Rattle.numerals.proofs.Fractions.{fraction_lt}
use Rattle.text_scan.specs.Scanning.{Scan, with_pair, start_of, scanned_parts}
use Rattle.text_scan.proofs.Lasting.{Everywhere, ended, letter, lasts}

abbrev Below : Scan → Type 0
Below t = t.clock.part < second_ticks

below_everywhere : (ps : List ℕ) → Everywhere Below ps
unfolding with_pair
below_everywhere [] = ended
below_everywhere (p ∷ ps) =
    letter (record { year = λ q t n y a. a; fraction = λ q t s i a. fraction_lt s i; zone = λ q t z i a. a; pair = λ q t g a. a }) (below_everywhere ps)

pub part_below : (keep : ℕ → ℕ) (k : Kind) (s : List ℕ) → (scanned_parts keep k s).clock.part < second_ticks
part_below keep k s = lasts Below (λ t i g a. a) keep (below_everywhere (layout_of k)) s (start_of (template_of k)) (omega arith)
