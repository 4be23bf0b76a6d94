use mathlib.Core.Path.{ap, ◌∙◌}
use Rattle.calls_asked.specs.Asked.{form_by, form_of}
use Rattle.calls_asked.proofs.forms.form.Goals as goal

pub returns : goal.returns
unfolding form_of
returns c = c.form_by.ensures ∙ ap (form_by c.args.line.now) c.field.ensures
