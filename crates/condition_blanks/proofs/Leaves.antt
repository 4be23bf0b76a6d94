-- What a tree with a literal is: the literal itself, or one with it below.
use mathlib.Core.Path.{◌≡◌, refl}
use mathlib.Core.Logic.{◌⊎◌, inl, inr}
use Prim.Native.Nat.{ℕ}
use Rattle.value.specs.declared.Kind.{Kind}
use Rattle.condition_symbols.specs.declared.Op.{Op}
use Rattle.condition_grammar.specs.Trees.{Tree, Below, leaf, one, two, literal, field}
use Rattle.condition_blanks.specs.Literals.{LiteralIn, here, below, left, right}

module _ {from to : ℕ} where
  pub at_leaf : {k : Kind} {w i j : ℕ} → LiteralIn from to (leaf k w (literal i j)) → (i ≡ from) × (j ≡ to)
  at_leaf here = (refl, refl)

  pub at_field : {k : Kind} {w i p : ℕ} → LiteralIn from to (leaf k w (field i p)) → ⊥
  at_field l = elim l [ ]

  pub at_one : {b : Below} {p : ℕ} {t : Tree} → LiteralIn from to (one b p t) → LiteralIn from to t
  at_one (below l) = l

  pub at_two : {o : Op} {z p : ℕ} {t u : Tree} → LiteralIn from to (two o z p t u) → LiteralIn from to t ⊎ LiteralIn from to u
  at_two (left l) = inl l
  at_two (right l) = inr l
