use mathlib.Core.List.{append_assoc}
use native.Mathlib.Omega.{arith}
use Rattle.value_components.specs.declared.Lasting.{Lasting}
use Rattle.calls_replies.specs.ReplyParts.{parts_text}
use Rattle.calls_replies.proofs.NumberTexts.{kept}
use Rattle.calls_replies.proofs.parts.of_duration.Goals as goal

pub returns : goal.returns
unfolding parts_text
returns c =
    let l : Lasting = c.args.l in
    let years = rw (kept l.years (omega arith)) at c.push_signed.ensures.text in
    let months = rw (kept l.months (omega arith)) at c.push_signed-2.ensures.text in
    let days = rw (kept l.days (omega arith)) at c.push_signed-3.ensures.text in
    let hours = rw (kept l.hours (omega arith)) at c.push_signed-4.ensures.text in
    let minutes = rw (kept l.minutes (omega arith)) at c.push_signed-5.ensures.text in
    let seconds = rw (kept l.seconds (omega arith), kept l.part (omega arith)) at c.push_signed-6.ensures.text in
    rw (seconds, minutes, hours, days, months, years, c.new-reply.ensures) (simp append_assoc)
