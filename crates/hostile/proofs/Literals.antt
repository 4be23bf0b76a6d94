-- Words of a script's line as a `match` asks for them: a word with each byte of a literal is that literal.
use Rattle.std.proofs.lemmas.Slice.Eq.{HasBytesAt, text_from_reads}
use mathlib.Core.Path.{◌≡◌, refl, ap, ◌∙◌}
use mathlib.Core.Bool.{true}
use mathlib.Core.List.{List, [], ◌∷◌}
use Prim.Native.Nat.{ℕ}
use lib.ListN.{length}
use borrow.Author.Tests.{eq-eqb}
use Rattle.basis.specs.Choice.{both}
use Rattle.condition_words.specs.Words.{same}
use Rattle.condition_words.proofs.Literals.{shorter, longer, other_at}

itself : (w : List ℕ) → same w w ≡ true
unfolding same both
itself [] = refl
itself (x ∷ xs) = rw (eq-eqb x x refl) (itself xs)

pub each_byte : (w lit : List ℕ) → length w ≡ length lit → HasBytesAt w 0 lit → same w lit ≡ true
each_byte w lit l h = ap (λ (v : List ℕ). same v lit) (text_from_reads w lit l h) ∙ itself lit

-- for `using`, where a function matches a word against literals
pub ruleset literals = (shorter, longer, other_at, each_byte)
