use Rattle.calls_asked.proofs.FormLaws.{too_few, enough}
use Rattle.calls_asked.proofs.forms.exactly.Goals as goal

pub returns-then-not-has_field : goal.returns-then-not-has_field
returns-then-not-has_field c = too_few c.args.line.now c.args.n c.requires.0 c.has_field.ensures c.if-not-has_field.true

pub returns : goal.returns
returns c = enough c.args.line.now c.args.n c.requires.0 c.has_field.ensures c.if-not-has_field.false c.has_field-2.ensures
