-- Two answers that keep the promise of `whole` are equal: whether the text is a whole number, its minus, and its magnitude as far as the first
-- number that is no factor. Of a greater one the promise says no more than that.
use mathlib.Core.Path.{◌≡◌, sym, ◌∙◌}
use mathlib.Core.List.{List}
use Prim.Native.Nat.{ℕ}
use Rattle.calls_asked.specs.Carried.{KeptOf}
use Rattle.calls_asked.specs.declared.forms.Factor.{Factor}

pub factor_determined : (s : List ℕ) (r r' : Factor) → KeptOf s r → KeptOf s r' → r ≡ r'
factor_determined s r r' p p' =
    λ i. record { good = (p.0 ∙ sym p'.0) i; negative = (p.1 ∙ sym p'.1) i; magnitude = (p.2 ∙ sym p'.2) i }
