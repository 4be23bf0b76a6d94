-- A test that tells exactly whether a field is a word is the test that the definition of a run takes.
use mathlib.Core.Path.{◌≡◌, refl, sym, ap, ◌∙◌}
use mathlib.Core.Bool.{Bool, true, false, true≢false}
use mathlib.Core.List.{List, [], ◌∷◌}
use Prim.Native.Nat.{ℕ}
use lib.Dec.{eqb}
use borrow.Author.Tests.{eqb-true}
use Rattle.basis.specs.Choice.{both}
use Rattle.basis.specs.Exactly.{Exactly}
use Rattle.basis.specs.Letters.{bytes}
use Rattle.basis.proofs.Tests.{both_left, both_right}
use Rattle.timetable.specs.Fields.{field_at}
use Rattle.condition_words.specs.Words.{same}
use Rattle.run_cases.specs.StandsFor.{is_run}

words_are : (a b : List ℕ) → same a b ≡ true → a ≡ b
unfolding same
words_are [] [] e = refl
words_are [] (y ∷ ys) e = absurd (true≢false (sym e))
words_are (x ∷ xs) [] e = absurd (true≢false (sym e))
words_are (x ∷ xs) (y ∷ ys) e =
    λ i. eqb-true x y (both_left (eqb x y) (same xs ys) e) i ∷ words_are xs ys (both_right (eqb x y) (same xs ys) e) i

every_same : same (bytes "every") (bytes "every") ≡ true
unfolding same both
every_same = refl

told : (f w : List ℕ) (t b : Bool) → same w w ≡ true → same f w ≡ b → Exactly (t ≡ true) (f ≡ w) → t ≡ b
told f w true b k e x = sym (sym e ∙ ap (λ (g : List ℕ). same g w) (x.only refl) ∙ k)
told f w false true k e x = x.always (words_are f w e)
told f w false false k e x = refl

pub run_tested : (line : List ℕ) {t : Bool} → Exactly (t ≡ true) (field_at line 2 ≡ bytes "every") → t ≡ is_run line
unfolding is_run
run_tested line {t} x = told (field_at line 2) (bytes "every") t (same (field_at line 2) (bytes "every")) every_same refl x
