-- Carried: what is kept of a number's text. No promise to a caller rests on it: which call a line is, Asked.antt says, and
-- the answer to it crate `calls`.
use Rattle.std.specs.Prelude.{◌≡◌, List, ℕ, ◌+◌, min}
use Rattle.operation_arithmetic.specs.Products.{max_factor}
use Rattle.calls_asked.specs.Asked.{has_minus, is_whole, whole_magnitude}
use Rattle.calls_asked.specs.declared.forms.Factor.{Factor}

-- the first number that is no factor; code keeps greater ones as this one, which is refused like them
abbrev pub beyond : ℕ
beyond = max_factor + 1

-- what is kept of a text: whether it is an N, its minus, and its number as far as the first that is no factor
abbrev pub KeptOf : List ℕ → Factor → Type 0
KeptOf s r = (r.good ≡ is_whole s) × (r.negative ≡ has_minus s) × (r.magnitude ≡ min beyond (whole_magnitude s))
