use mathlib.Core.Path.{sym, ◌∙◌}
use Rattle.basis.proofs.Tests.{no, yes}
use Rattle.text_scan.specs.Carried.{capped}
use Rattle.text_scan.proofs.BelowSecond.{part_below}
use Rattle.text_checks.proofs.Ways.{way}
use Rattle.text_layouts.proofs.OfKinds.{by_layout, no_layout}
use Rattle.text_layouts.proofs.read_layout.Goals as goal

pub returns-then-not-is_moment : goal.returns-then-not-is_moment
returns-then-not-is_moment c = rw c.numbered.ensures (sym (no_layout c.args.kind (no c.is_moment.ensures c.if-not-is_moment.true) c.args.s.now))

pub judged-requires : goal.judged-requires
judged-requires c = rw c.parts_of.ensures (part_below capped c.args.kind c.args.s.now)

pub returns : goal.returns
returns c = c.judged.ensures ∙ way c.args.kind c.args.s.now c.parts_of.ensures ∙ sym (by_layout c.args.kind (yes c.is_moment.ensures c.if-not-is_moment.false) c.args.s.now)
