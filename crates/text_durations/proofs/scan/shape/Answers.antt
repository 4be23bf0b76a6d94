use Rattle.text_forms.specs.Forms.{minus_sign}
use Rattle.text_durations.proofs.Going.{a_minus, no_minus}
use Rattle.numerals.proofs.Positions.{within}
use native.Mathlib.Omega.{arith}
use mathlib.Core.Path.{sym, ◌∙◌}
use Rattle.text_durations.proofs.scan.shape.Goals as goal

pub shape_from-requires : goal.shape_from-requires
shape_from-requires c = (omega (arith, within c.args.s.now 0 minus_sign (sym c.byte.ensures ∙ c.if-byte-eq45.true) (omega arith)), c.requires.0, c.requires.1)

pub returns-then-byte-eq45 : goal.returns-then-byte-eq45
returns-then-byte-eq45 c = a_minus _ _ _ (sym c.byte.ensures ∙ c.if-byte-eq45.true) c.shape_from.ensures

pub returns : goal.returns
returns c = no_minus _ _ _ (λ e. c.if-byte-eq45.false (c.byte.ensures ∙ e)) c.shape_from-2.ensures
