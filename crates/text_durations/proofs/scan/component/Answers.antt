use Rattle.text_forms.specs.Forms.{point}
use Rattle.text_durations.proofs.Ways.{absent, no_letter, no_point, no_seconds, a_part, with_point}
use Rattle.numerals.proofs.Positions.{within}
use native.Mathlib.Omega.{arith}
use mathlib.Core.Path.{sym, ◌∙◌}
use Rattle.text_durations.proofs.scan.component.Goals as goal

pub digits-n-requires : goal.digits-n-requires
digits-n-requires c = (c.requires.0, omega arith)

pub returns-then-end-at : goal.returns-then-end-at
returns-then-end-at c = absent _ _ _ c.args.t c.requires.1 _ c.digits-n.ensures c.if-end-at.true

pub counting-sums-requires : goal.counting-sums-requires
counting-sums-requires c = (c.requires.1, omega (arith, c.digits-n.ensures))

pub overflow_add-t : goal.overflow_add-t
overflow_add-t c = omega (arith, c.digits-n.ensures)

pub overflow_add-t-then-b-letter : goal.overflow_add-t-then-b-letter
overflow_add-t-then-b-letter c = omega (arith, c.digits-n.ensures)

pub returns-then-b-letter : goal.returns-then-b-letter
returns-then-b-letter c = a_part _ _ _ c.args.t c.requires.1 _ c.digits-n.ensures c.if-end-at.false c.counting-sums.ensures (sym c.byte-b.ensures ∙ c.if-b-letter.true)

pub pointed-requires : goal.pointed-requires
pointed-requires c = (omega (arith, within c.args.s.now _ point (sym c.byte-b.ensures ∙ c.if-b-eq46.true) (omega arith)), c.requires.2)

pub returns-then-b-eq46 : goal.returns-then-b-eq46
returns-then-b-eq46 c = c.pointed.ensures ∙ with_point _ _ _ c.args.t c.requires.1 _ c.digits-n.ensures c.if-end-at.false c.counting-sums.ensures (λ e. c.if-b-letter.false (c.byte-b.ensures ∙ e)) c.if-letter-eq83.true (sym c.byte-b.ensures ∙ c.if-b-eq46.true)

pub returns-else-b-eq46 : goal.returns-else-b-eq46
returns-else-b-eq46 c = no_letter _ _ _ c.args.t c.requires.1 _ c.digits-n.ensures c.if-end-at.false (λ e. c.if-b-letter.false (c.byte-b.ensures ∙ e)) (no_point c.args.letter c.byte-b.ensures c.if-b-eq46.false)

pub returns-else-letter-eq83 : goal.returns-else-letter-eq83
returns-else-letter-eq83 c = no_letter _ _ _ c.args.t c.requires.1 _ c.digits-n.ensures c.if-end-at.false (λ e. c.if-b-letter.false (c.byte-b.ensures ∙ e)) (no_seconds c.args.letter c.byte-b.ensures c.if-letter-eq83.false)
