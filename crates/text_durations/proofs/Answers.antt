-- Two readings that keep the promise of `read` are equal.
use mathlib.Core.Path.{◌≡◌, sym, ◌∙◌}
use Prim.Native.Nat.{ℕ}
use Rattle.basis.specs.Answer.{Answer}
use Rattle.value.specs.declared.Value.{Value}
use Rattle.value.proofs.Answers.{outcome_determined}
use Rattle.text_durations.specs.Carried.{Reads}
use Rattle.text_durations.specs.declared.Reading.{Reading}

pub reading_determined : (a : Answer Value) (n : ℕ) (r r' : Reading) → Reads a n r → Reads a n r' → r ≡ r'
reading_determined a n r r' p p' =
    λ i. record { outcome = outcome_determined r.outcome r'.outcome (p.0 ∙ sym p'.0) i; offset = (p.1 ∙ sym p'.1) i }
