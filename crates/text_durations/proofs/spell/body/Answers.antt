use mathlib.Core.Path.{sym, ◌∙◌}
use mathlib.Core.List.{append_assoc}
use native.Mathlib.Omega.{arith}
use lib.ListN.{length-append}
use Rattle.text_durations.proofs.Written.{body_length, after_length, body_before, body_both}
use Rattle.text_durations.proofs.spell.body.Goals as goal

pub push-requires : goal.push-requires
push-requires c = (omega arith, omega (arith, body_length c.args.before.now c.args.after.now c.args.sums c.args.ticks))

pub shown_all-left-requires : goal.shown_all-left-requires
shown_all-left-requires c = rw c.push.ensures (simp length-append (omega (arith, body_length c.args.before.now c.args.after.now c.args.sums c.args.ticks)))

pub returns-then-is_nothing : goal.returns-then-is_nothing
returns-then-is_nothing c =
    rw (c.shown_all-left.ensures.written, c.push.ensures, body_before c.args.before.now c.args.after.now c.args.sums c.args.ticks c.shown_all-left.ensures.rest (sym c.is_nothing.ensures ∙ c.if-is_nothing.true), append_assoc)

pub push-requires-2 : goal.push-requires-2
push-requires-2 c = (
  omega arith,
  rw (c.shown_all-left.ensures.written, c.push.ensures)
      (simp length-append (omega (arith, after_length c.args.before.now c.args.after.now c.args.sums c.args.ticks c.shown_all-left.ensures.rest (sym c.is_nothing.ensures ∙ c.if-is_nothing.false)))),
)

pub shown_all-requires : goal.shown_all-requires
shown_all-requires c =
    rw (c.push-2.ensures, c.shown_all-left.ensures.written, c.push.ensures)
    (simp length-append (omega (arith, after_length c.args.before.now c.args.after.now c.args.sums c.args.ticks c.shown_all-left.ensures.rest (sym c.is_nothing.ensures ∙ c.if-is_nothing.false))))

pub returns : goal.returns
returns c =
    rw (c.shown_all.ensures.written, c.push-2.ensures, c.shown_all-left.ensures.written, c.push.ensures, body_both c.args.before.now c.args.after.now c.args.sums c.args.ticks c.shown_all-left.ensures.rest (sym c.is_nothing.ensures ∙ c.if-is_nothing.false))
    (simp append_assoc)
