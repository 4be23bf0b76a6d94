use Rattle.calls.specs.Answers.{refused_text}
use Rattle.calls.proofs.calling.refused.Goals as goal

pub returns : goal.returns
unfolding refused_text
returns c = rw (c.push_number.ensures.text, c.new-reply.ensures)
