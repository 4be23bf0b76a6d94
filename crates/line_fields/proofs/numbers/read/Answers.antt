use mathlib.Core.Path.{◌≡◌, refl, sym, ◌∙◌}
use Prim.Native.Nat.{◌≤◌}
use borrow.Author.Rules.{rules}
use native.Mathlib.Omega.{arith}
use lib.ListN.{length}
use Rattle.line_fields.proofs.Within.{is_digit_by, next, too_short, too_long, at_other, too_great, at_end}
use Rattle.line_fields.proofs.numbers.read.Goals as goal
use Rattle.line_fields.proofs.numbers.read.Goals.{then-is_empty-via-then-is_empty, then-is_empty-via-else-is_empty+then-s-gt-DIGITS}

pub returns-then-is_empty-clause-value : goal.returns-then-is_empty-clause-value
returns-then-is_empty-clause-value c = elim c.then-is_empty.branch [
  | then-is_empty-via-then-is_empty w ↦ let h : length c.args.s.now ≡ 0 = search rules in sym (too_short _ _ (omega arith))
  | then-is_empty-via-else-is_empty+then-s-gt-DIGITS w ↦ let h : 1 ≤ length c.args.s.now = search rules in sym (too_long _ _ h w.if-s-gt-DIGITS.true)
]

pub loop-b-init : goal.loop-b-init
loop-b-init c = record { low = omega arith; rest = refl }

pub returns-then-not-is_ascii_digit-clause-value : goal.returns-then-not-is_ascii_digit-clause-value
returns-then-not-is_ascii_digit-clause-value c =
    sym (at_other _ _ (omega arith) c.if-s-gt-DIGITS.false c.loop-b.invariant c.loop-b-test.true (is_digit_by _ c.is_ascii_digit.ensures.value c.if-not-is_ascii_digit.true))

pub returns-in_err-checked_mul-clause-value : goal.returns-in_err-checked_mul-clause-value
returns-in_err-checked_mul-clause-value c =
    let d = is_digit_by _ c.is_ascii_digit.ensures.value c.if-not-is_ascii_digit.false in
    c.from_residual.ensures ∙ sym (too_great _ _ (omega arith) c.if-s-gt-DIGITS.false c.loop-b.invariant c.loop-b-test.true d (omega arith))

pub returns-in_err-n-clause-value : goal.returns-in_err-n-clause-value
returns-in_err-n-clause-value c =
    let d = is_digit_by _ c.is_ascii_digit.ensures.value c.if-not-is_ascii_digit.false in
    c.from_residual-in_err-n.ensures ∙ sym (too_great _ _ (omega arith) c.if-s-gt-DIGITS.false c.loop-b.invariant c.loop-b-test.true d (omega arith))

pub returns-then-most-n-clause-value : goal.returns-then-most-n-clause-value
returns-then-most-n-clause-value c =
    let d = is_digit_by _ c.is_ascii_digit.ensures.value c.if-not-is_ascii_digit.false in
    sym (too_great _ _ (omega arith) c.if-s-gt-DIGITS.false c.loop-b.invariant c.loop-b-test.true d (omega arith))

pub loop-b-preserved : goal.loop-b-preserved
loop-b-preserved c =
    let d = is_digit_by _ c.is_ascii_digit.ensures.value c.if-not-is_ascii_digit.false in
    next _ _ (omega arith) c.if-s-gt-DIGITS.false c.loop-b.invariant c.loop-b-test.true d _ (omega arith) c.if-most-n.false

pub returns-clause-value : goal.returns-clause-value
returns-clause-value c = let h : 1 ≤ length c.args.s.now = search rules in sym (at_end _ _ h c.if-s-gt-DIGITS.false c.loop-b.invariant (omega arith) c.loop-b-test.false)
