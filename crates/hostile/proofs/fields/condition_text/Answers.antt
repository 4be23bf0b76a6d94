use mathlib.Core.Path.{ap, ◌∙◌}
use Rattle.line_fields.specs.Fields.{after_tab}
use Rattle.hostile.proofs.fields.condition_text.Goals as goal

pub returns : goal.returns
returns c = c.after_tab-3.ensures ∙ ap after_tab (c.after_tab-2.ensures ∙ ap after_tab c.after_tab.ensures)
