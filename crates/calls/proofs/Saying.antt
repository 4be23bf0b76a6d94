-- What a call answered, put into words: the value's words, or the refusal's.
use Rattle.std.specs.Prelude.{Err, Ok, Result}
use mathlib.Core.Path.{◌≡◌, ap, sym, ◌∙◌}
use mathlib.Core.List.{List}
use Prim.Native.Nat.{ℕ}
use Rattle.basis.specs.Answer.{Answer}
use Rattle.value.specs.Kinds.{meaning}
use Rattle.value.specs.declared.Value.{Value}
use Rattle.value.specs.declared.Refusal.{Refusal}
use Rattle.calls.specs.Answers.{refused_text, said}

-- the words of an answer that is known by another name
pub renamed : {A : Type 0} (f : A → List ℕ) {a b : Answer A} {r : List ℕ} → a ≡ b → r ≡ said f a → r ≡ said f b
renamed f e h = h ∙ ap (said f) e

module _ (f : Value → List ℕ) {o : Result Value Refusal} {a : Answer Value} (m : meaning o ≡ a) where
  pub was_read : {v : Value} {r : List ℕ} → o ≡ Ok v → r ≡ f v → r ≡ said f a
  was_read e h = renamed f (ap meaning (sym e) ∙ m) h

  pub was_refused : {x : Refusal} {r : List ℕ} → o ≡ Err x → r ≡ refused_text x.number → r ≡ said f a
  was_refused e h = renamed f (ap meaning (sym e) ∙ m) h
