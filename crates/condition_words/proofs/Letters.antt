-- What belongs to each class.
use mathlib.Core.Path.{◌≡◌}
use mathlib.Core.Bool.{Bool}
use Prim.Native.Nat.{ℕ}
use lib.Dec.{eqb}
use mathlib.Core.Bool.{not}
use Prim.Native.Char.{code}
use Rattle.condition_words.specs.Words.{letter, belongs}
use Rattle.condition_words.specs.declared.Class.{Class}
use Rattle.condition_words.specs.declared.Class.TheVariants.{Space, Letter, Unquoted}

module _ (c : Class) (b : ℕ) where
  pub of_space : c ≡ Space → eqb b (code " ") ≡ belongs c b
  unfolding belongs
  of_space e = rw e

  pub of_letter : {r : Bool} → c ≡ Letter → r ≡ letter b → r ≡ belongs c b
  unfolding belongs
  of_letter e h = rw e h

  pub of_unquoted : c ≡ Unquoted → not (eqb b (code "\"")) ≡ belongs c b
  unfolding belongs
  of_unquoted e = rw e
