-- Calls that are alike but for blanks round their texts are the same call, on the same values.
use mathlib.Core.Path.{◌≡◌, refl, ap, ◌∙◌}
use mathlib.Core.List.{List}
use Prim.Native.Nat.{ℕ}
use Rattle.value.specs.declared.Kind.{Kind}
use Rattle.timetable.specs.Fields.{field_at}
use Rattle.text.specs.Reading.{read_as}
use Rattle.text.proofs.Blanks.{same_bare_reads}
use Rattle.calls_asked.specs.Asked.{exactly, one_form, two_form, product_form, cast_form, pair_by, form_by, form_of}
use Rattle.calls_asked.specs.declared.CallForm.{CallForm}
use Rattle.calls_asked.specs.declared.CallForm.TheVariants as F
use Rattle.calls.specs.Answers.{answer_by, answer_of}
use Rattle.calls_cases.specs.Blanks.{AlikeCalls, BlanksChangeNoAnswer}

module _ (a b : List ℕ) (h : AlikeCalls a b) where
  same_form : form_of a ≡ form_of b
  unfolding form_of form_by pair_by one_form two_form product_form cast_form exactly
  same_form = rw (h.count, h.word, h.kind, h.other)

  first_read : (k : Kind) → read_as k (field_at a 3) ≡ read_as k (field_at b 3)
  first_read k = same_bare_reads k (field_at a 3) (field_at b 3) h.text

  second_read : (k : Kind) → read_as k (field_at a 5) ≡ read_as k (field_at b 5)
  second_read k = same_bare_reads k (field_at a 5) (field_at b 5) h.second

  same_answer : (f : CallForm) → answer_by a f ≡ answer_by b f
  unfolding answer_by
  same_answer F.No = refl
  same_answer (F.OfOne o k) = rw (first_read k)
  same_answer (F.OfTwo o k l) = rw (first_read k, second_read l)
  same_answer (F.Product k) = rw (first_read k, h.other)
  same_answer (F.Cast k l) = rw (first_read k)

pub blanks_change_no_answer : BlanksChangeNoAnswer
unfolding answer_of
blanks_change_no_answer a b h = ap (answer_by a) (same_form a b h) ∙ same_answer a b h (form_of b)
