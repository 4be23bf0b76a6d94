-- The form that a row lends, in reading and in writing.
use Rattle.std.specs.Prelude.{Ok, Result}
use mathlib.Core.Path.{◌≡◌, ap, sym, ◌∙◌, subst}
use mathlib.Core.Bool.{Bool, true}
use mathlib.Core.List.{List}
use Prim.Native.Nat.{ℕ, ◌+◌, ◌^◌, ◌≤◌, ◌<◌}
use native.Mathlib.Omega.{arith}
use lib.ListN.{length}
use Rattle.basis.specs.Answer.{gives}
use Rattle.value.specs.Rows.{has}
use Rattle.value.specs.Kinds.{kind_of, ok_value}
use Rattle.value.specs.declared.Kind.{Kind}
use Rattle.value.specs.declared.Kind.TheVariants as KV
use Rattle.value.specs.declared.Value.{Value}
use Rattle.numerals.specs.Reading.{fraction_digits}
use Rattle.numerals.specs.Writing.{longest}
use Rattle.numerals.specs.Carried.{without_zero}
use Rattle.text_forms.specs.declared.FormRow.{FormRow}
use Rattle.text_durations.specs.declared.Shape.{Shape}
use Rattle.text_durations.specs.declared.Amount.{Amount}
use Rattle.text_forms.specs.Forms.{Form, minutes, duration_form, form_months}
use Rattle.text_durations.specs.Walks.{shape, counted, read_by, as_value, amount_value, read_duration}
use Rattle.text_durations.specs.Carried.{count_meaning, shape_up_to, shape_end}
use Rattle.text_forms.specs.Carried.{form_in}
use Rattle.text_durations.specs.Spelling.{body, duration_text, amount_of, duration_text_of}
use Rattle.text_durations.proofs.FormTests.{Sane, sane_row}
use Rattle.text_durations.proofs.Valid.{Good, of_form, shape_ticks, reads_good}
use Rattle.text_durations.proofs.Lengths.{value_short}
use Rattle.value.specs.declared.Refusal.{Refusal}

-- reading: the letters that are lent are those of the form
module _ (k : Kind) (row : FormRow) (g : form_in row ≡ duration_form k) where
  pub marked : (without_zero row.before.now ≡ true) × (without_zero row.after.now ≡ true)
  marked = (ap (λ (f : Form). without_zero f.before) g ∙ (sane_row k).marked_before, ap (λ (f : Form). without_zero f.after) g ∙ (sane_row k).marked_after)

  module _ (s : List ℕ) {t : Shape} (et : t ≡ shape_up_to (shape row.before.now row.after.now s)) where
    of_row : t ≡ shape_up_to (shape (duration_form k).before (duration_form k).after s)
    of_row = et ∙ ap (λ (f : Form). shape_up_to (shape f.before f.after s)) g

    pub row_ticks : t.ticks < 10 ^ fraction_digits
    row_ticks = omega (arith, ap (λ (x : Shape). x.ticks) of_row, shape_ticks s (duration_form k).before (duration_form k).after)

    pub row_end : t.offset ≡ shape_end (duration_form k) s
    row_end = ap (λ (x : Shape). x.offset) of_row

    module _ {r x : (Result Amount Refusal)} (er : count_meaning r ≡ counted t) (ex : r ≡ x) where
      row_counts : count_meaning x ≡ read_by (duration_form k) s
      row_counts = of_form (duration_form k) s of_row er ex

      pub refused_so : as_value (amount_value (form_months (duration_form k))) (count_meaning x) ≡ read_duration k s
      refused_so = ap (as_value (amount_value (form_months (duration_form k)))) row_counts

    module _ {r : (Result Amount Refusal)} {a : Amount} (er : count_meaning r ≡ counted t) (ex : r ≡ Ok a) where
      pub read_good : Good a
      read_good = (reads_good (duration_form k) s a (sym (row_counts er ex))).good

      pub read_so : {months : Bool} {v : Value} → months ≡ has row.before.now minutes → v ≡ amount_value months a → gives v ≡ read_duration k s
      read_so em ev =
          ap gives ev
          ∙ ap (λ (b : Bool). gives (amount_value b a)) (em ∙ ap (λ (f : Form). form_months f) g)
          ∙ refused_so er ex

-- no kind's zero has more than four bytes
zero_short : (k : Kind) → length (duration_form k).nothing ≤ 4
zero_short KV.Date = omega arith
zero_short KV.Time = omega arith
zero_short KV.DateTime = omega arith
zero_short KV.DayTimeDuration = omega arith
zero_short KV.YearMonthDuration = omega arith

-- writing: the text in the form that the row lends
module _ (v : Value) {k : Kind} (ek : k ≡ kind_of v) (row : FormRow) (g : form_in row ≡ duration_form k) {a : Amount} (ea : a ≡ amount_of v) where
  its_form : form_in row ≡ duration_form (kind_of v)
  its_form = g ∙ ap duration_form ek

  pub row_text : duration_text (form_in row) a ≡ duration_text_of v
  row_text i = duration_text (its_form i) (ea i)

  pub nothing_short : length row.nothing.now ≤ 4
  nothing_short = omega (arith, ap (λ (f : Form). length f.nothing) its_form, zero_short (kind_of v))

  pub row_short : ok_value v ≡ true → 1 + length (body row.before.now row.after.now a.sums a.ticks) ≤ longest
  row_short ok =
      subst (λ (x : Amount). 1 + length (body (form_in row).before (form_in row).after x.sums x.ticks) ≤ longest) (sym ea)
      (value_short v (form_in row) ok (subst Sane (sym its_form) (sane_row (kind_of v))))
