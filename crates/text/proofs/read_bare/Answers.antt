use mathlib.Core.Path.{sym, ◌∙◌}
use Rattle.text.proofs.ReadsBare.{moment_reads, duration_reads}
use Rattle.text.proofs.read_bare.Goals as goal

pub returns-then-is_moment : goal.returns-then-is_moment
returns-then-is_moment c = c.read_layout.ensures ∙ sym (moment_reads c.args.kind c.args.s.now (sym c.is_moment.ensures ∙ c.if-is_moment.true))

pub returns : goal.returns
returns c = c.read-r.ensures.0 ∙ sym (duration_reads c.args.kind c.args.s.now (sym c.is_moment.ensures ∙ c.if-is_moment.false))
