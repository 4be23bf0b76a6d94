-- Two answers that keep the promise of `digits` are equal: where the stretch ends, and its number as far as the cap. Of a number beyond the cap
-- the promise says no more than that.
use mathlib.Core.Path.{◌≡◌, sym, ◌∙◌}
use mathlib.Core.List.{List}
use Prim.Native.Nat.{ℕ}
use Rattle.numerals.specs.Carried.{Found}
use Rattle.numerals.specs.declared.DigitsRead.{DigitsRead}

pub stretch_determined : (s : List ℕ) (i cap : ℕ) (r r' : DigitsRead) → Found s i cap r → Found s i cap r' → r ≡ r'
stretch_determined s i cap r r' f f' = λ j. record { end = (f.ends ∙ sym f'.ends) j; value = (f.capped ∙ sym f'.capped) j }
