use mathlib.Core.Path.{refl, ap, sym, ◌∙◌}
use Rattle.calls_asked.specs.Asked.{is_whole}
use Rattle.calls_asked.proofs.FormLaws.{no_product, is_product, names}
use Rattle.calls_asked.proofs.forms.product.Goals as goal

pub returns-then-not-exactly : goal.returns-then-not-exactly
returns-then-not-exactly c = no_product c.args.line.now c.exactly.ensures c.if-not-exactly.true

pub returns-then-n : goal.returns-then-n
returns-then-n c = is_product c.args.line.now c.exactly.ensures c.if-not-exactly.false (sym c.if-n.true ∙ c.whole-n.ensures.0 ∙ ap is_whole c.field.ensures) (names c.args.line.now 2 c.field-2.ensures c.kind_named.ensures c.in-Some.is)

pub returns-in-None : goal.returns-in-None
returns-in-None c = is_product c.args.line.now c.exactly.ensures c.if-not-exactly.false refl (names c.args.line.now 2 c.field-2.ensures c.kind_named.ensures c.in-None.is)

pub returns-else-n : goal.returns-else-n
returns-else-n c = is_product c.args.line.now c.exactly.ensures c.if-not-exactly.false (sym c.if-n.false ∙ c.whole-n.ensures.0 ∙ ap is_whole c.field.ensures) (names c.args.line.now 2 c.field-2.ensures c.kind_named.ensures c.in-Some.is)
