use mathlib.Core.List.{append_assoc}
use Rattle.calls_replies.specs.ReplyParts.{parts_text}
use Rattle.calls_replies.proofs.parts.of_moment.Goals as goal

pub returns : goal.returns
unfolding parts_text
returns c =
    rw (c.push_zone.ensures, c.push_clock_field.ensures.text, c.push_date_field-3.ensures.text, c.push_date_field-2.ensures.text, c.push_date_field.ensures.text, c.new-reply.ensures)
    (simp append_assoc)
