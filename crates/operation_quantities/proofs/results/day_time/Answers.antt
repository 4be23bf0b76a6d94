use mathlib.Core.Path.{◌∙◌}
use Rattle.basis.proofs.Tests.{no, yes}
use Rattle.value.specs.Carried.{ticks_of}
use Rattle.operation_quantities.proofs.Bounded.{beyond_refused, within_made}
use Rattle.operation_quantities.proofs.results.day_time.Goals as goal

pub returns-then-not-size_ok : goal.returns-then-not-size_ok
returns-then-not-size_ok c = c.refused.ensures ∙ beyond_refused c.args.negative (ticks_of c.args.s) (no c.size_ok.ensures c.if-not-size_ok.true)

pub returns : goal.returns
returns c = within_made c.args.negative (ticks_of c.args.s) _ (yes c.size_ok.ensures c.if-not-size_ok.false) c.lasting.ensures
