use mathlib.Core.Path.{refl}
use Rattle.calls_asked.proofs.FormLaws.{no_cast, is_cast, names}
use Rattle.calls_asked.proofs.forms.cast.Goals as goal

pub returns-then-not-exactly : goal.returns-then-not-exactly
returns-then-not-exactly c = no_cast c.args.line.now c.exactly.ensures c.if-not-exactly.true

pub returns-in-None : goal.returns-in-None
returns-in-None c = is_cast c.args.line.now c.exactly.ensures c.if-not-exactly.false (names c.args.line.now 2 c.field.ensures c.kind_named.ensures c.in-None.is) refl

pub returns-in-None-kind_named : goal.returns-in-None-kind_named
returns-in-None-kind_named c = is_cast c.args.line.now c.exactly.ensures c.if-not-exactly.false (names c.args.line.now 2 c.field.ensures c.kind_named.ensures c.in-Some.is) (names c.args.line.now 4 c.field-in-Some.ensures c.kind_named-in-Some.ensures c.in-None-kind_named.is)

pub returns-in-Some-kind_named : goal.returns-in-Some-kind_named
returns-in-Some-kind_named c = is_cast c.args.line.now c.exactly.ensures c.if-not-exactly.false (names c.args.line.now 2 c.field.ensures c.kind_named.ensures c.in-Some.is) (names c.args.line.now 4 c.field-in-Some.ensures c.kind_named-in-Some.ensures c.in-Some-kind_named.is)
