-- Rows that say the same form lend the same bytes, so that a contract on the form determines all that can be read of a row.
use mathlib.Core.Path.{◌≡◌, ap}
use Rattle.text_forms.specs.Forms.{Form}
use Rattle.text_forms.specs.Carried.{form_in}
use Rattle.text_forms.specs.declared.FormRow.{FormRow}

pub form_determined : (a b : FormRow) → form_in a ≡ form_in b
    → (a.before.now ≡ b.before.now) × (a.after.now ≡ b.after.now) × (a.nothing.now ≡ b.nothing.now)
form_determined a b e = (ap (λ (f : Form). f.before) e, ap (λ (f : Form). f.after) e, ap (λ (f : Form). f.nothing) e)
