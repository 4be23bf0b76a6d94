-- Carried: a form as the code keeps it. No promise to a caller rests on it: the forms are Forms.antt.
use Rattle.text_forms.specs.Forms.{Form}
use Rattle.text_forms.specs.declared.FormRow.{FormRow}

-- the form that is lent
abbrev pub form_in : FormRow → Form
form_in r = record { before = r.before.now; after = r.after.now; nothing = r.nothing.now }
