use Rattle.text_durations.proofs.Ways.{no_digit, not_closed, closed}
use Rattle.numerals.proofs.Positions.{within}
use native.Mathlib.Omega.{arith}
use mathlib.Core.Path.{sym, ◌∙◌}
use Rattle.text_durations.proofs.scan.pointed.Goals as goal

pub returns-then-end-from : goal.returns-then-end-from
returns-then-end-from c = no_digit _ _ c.args.t _ _ c.fraction_at-f.ensures c.if-end-from.true

pub returns-then-byte-letter : goal.returns-then-byte-letter
returns-then-byte-letter c = not_closed _ _ c.args.t _ _ c.fraction_at-f.ensures c.if-end-from.false (λ e. c.if-byte-letter.true (c.byte.ensures ∙ e))

pub overflow_add-t : goal.overflow_add-t
overflow_add-t c = omega (arith, within c.args.s.now _ _ (sym c.byte.ensures ∙ c.if-byte-letter.false) c.requires.1)

pub overflow_add-t-2 : goal.overflow_add-t-2
overflow_add-t-2 c = omega (arith, within c.args.s.now _ _ (sym c.byte.ensures ∙ c.if-byte-letter.false) c.requires.1)

pub returns : goal.returns
returns c = closed _ _ c.args.t _ _ c.fraction_at-f.ensures c.if-end-from.false (sym c.byte.ensures ∙ c.if-byte-letter.false)
