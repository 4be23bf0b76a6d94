use Rattle.text_forms.specs.Forms.{start_mark}
use Rattle.text_durations.proofs.Going.{no_start, a_start, after_le}
use Rattle.text_durations.proofs.Capping.{up_to_small}
use Rattle.numerals.proofs.Positions.{within}
use native.Mathlib.Omega.{arith}
use mathlib.Core.Path.{sym, ◌∙◌}
use Rattle.text_durations.proofs.scan.shape_from.Goals as goal

pub returns-then-byte-ne80 : goal.returns-then-byte-ne80
returns-then-byte-ne80 c = no_start _ _ _ _ _ (λ e. c.if-byte-ne80.true (c.byte.ensures ∙ e))

pub components-t-requires : goal.components-t-requires
components-t-requires c = (omega (arith, within c.args.s.now _ start_mark (sym c.byte.ensures ∙ c.if-byte-ne80.false) (omega arith)), (omega arith, omega arith), c.requires.1)

pub timed-requires : goal.timed-requires
timed-requires c = (after_le c.args.s.now c.args.before.now c.args.at c.requires.1 (sym c.byte.ensures ∙ c.if-byte-ne80.false) c.components-t.ensures, up_to_small _ c.components-t.ensures, c.requires.2)

pub returns : goal.returns
returns c = a_start _ _ _ _ _ (sym c.byte.ensures ∙ c.if-byte-ne80.false) c.components-t.ensures c.timed.ensures
