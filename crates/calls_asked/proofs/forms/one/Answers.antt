use Rattle.calls_asked.proofs.FormLaws.{no_one, is_one, names}
use Rattle.calls_asked.proofs.forms.one.Goals as goal

pub returns-then-not-exactly : goal.returns-then-not-exactly
returns-then-not-exactly c = no_one c.args.line.now c.args.o c.exactly.ensures c.if-not-exactly.true

pub returns-in-None : goal.returns-in-None
returns-in-None c = is_one c.args.line.now c.args.o c.exactly.ensures c.if-not-exactly.false (names c.args.line.now 2 c.field.ensures c.kind_named.ensures c.in-None.is)

pub returns-in-Some : goal.returns-in-Some
returns-in-Some c = is_one c.args.line.now c.args.o c.exactly.ensures c.if-not-exactly.false (names c.args.line.now 2 c.field.ensures c.kind_named.ensures c.in-Some.is)
