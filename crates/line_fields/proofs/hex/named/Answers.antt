use mathlib.Core.Path.{◌≡◌, sym, ◌∙◌}
use native.Mathlib.Omega.{arith}
use Rattle.line_fields.proofs.HexLaws.{too_many, one_left, no_digit, none_read, below, not_first, not_second, one_more, bytes_read, zeros_after}
use Rattle.line_fields.proofs.hex.named.Goals as goal
use Rattle.line_fields.proofs.hex.named.Goals.{then-s-ne0-via-then-s-ne0, then-s-ne0-via-else-s-ne0+then-count-gt-MOST}

pub returns-then-s-ne0 : goal.returns-then-s-ne0
returns-then-s-ne0 c = elim c.then-s-ne0.branch [
  | then-s-ne0-via-then-s-ne0 w ↦ one_left _ w.if-s-ne0.true
  | then-s-ne0-via-else-s-ne0+then-count-gt-MOST w ↦ too_many _ w.if-count-gt-MOST.true
]

pub loop-i-init : goal.loop-i-init
loop-i-init c =
    let e = c.into_iter-i-iterator.ensures.into_iter_gives in
    let k = c.enumerate-i-items.ensures in
    let h = c.chunks_exact.ensures in
    let r : c.into_iter-i-iterator.result.iter.rest.now ≡ c.args.s.now = cc in
    let n : c.into_iter-i-iterator.result.count ≡ 0 = cc in
    let two : c.into_iter-i-iterator.result.iter.size ≡ 2 = cc in
    (none_read c.args.s.now r n, two)

pub returns-in_err-digit_of : goal.returns-in_err-digit_of
returns-in_err-digit_of c =
    let i = c.loop-i.invariant in
    let k = c.in-Some.ensures.steps.0.1 in
    c.from_residual.ensures ∙ no_digit _ c.if-count-gt-MOST.false c.if-s-ne0.false (not_first i.0 _ _ k.0 (k.1 ∙ i.1) (sym c.in_err-digit_of.ensures.value))

pub returns-in_err-bytes : goal.returns-in_err-bytes
returns-in_err-bytes c =
    let i = c.loop-i.invariant in
    let k = c.in-Some.ensures.steps.0.1 in
    c.from_residual-in_err-bytes.ensures ∙ no_digit _ c.if-count-gt-MOST.false c.if-s-ne0.false (not_second i.0 _ _ k.0 (k.1 ∙ i.1) (sym c.in_ok-digit_of.ensures.value) (sym c.in_err-bytes.ensures.value))

pub loop-i-preserved : goal.loop-i-preserved
loop-i-preserved c =
    let i = c.loop-i.invariant in
    let t = c.in-Some.ensures.steps in
    let k = t.0.1 in
    let few = below i.0 _ _ k.0 (k.1 ∙ i.1) c.if-count-gt-MOST.false in
    let r = one_more i.0 _ _ k.0 (k.1 ∙ i.1) few (sym c.in_ok-digit_of.ensures.value) (sym c.in_ok-bytes.ensures.value) in
    (rw (t.1, t.2) r, t.0.0 ∙ i.1)

pub invariant_of-result : goal.invariant_of-result
invariant_of-result c =
    let i = c.loop-i.invariant in
    let k = c.in-None.ensures.steps.0 in
    (c.if-count-gt-MOST.false, zeros_after i.0 (omega arith) c.if-count-gt-MOST.false c.if-s-ne0.false)

pub returns : goal.returns
returns c =
    let i = c.loop-i.invariant in
    let k = c.in-None.ensures.steps.0 in
    bytes_read i.0 (omega arith) c.if-count-gt-MOST.false c.if-s-ne0.false
