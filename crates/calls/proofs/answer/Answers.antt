use mathlib.Core.Path.{ap, sym, ◌∙◌}
use Rattle.calls.specs.Answers.{answer_by, answer_of}
use Rattle.calls.proofs.answer.Goals as goal

pub returns-in-No : goal.returns-in-No
unfolding answer_by answer_of
returns-in-No c = c.no_call.ensures ∙ ap (answer_by c.args.line.now) (sym c.in-No.is ∙ c.form.ensures)

pub returns-in-OfOne : goal.returns-in-OfOne
unfolding answer_of
returns-in-OfOne c = c.one_call.ensures ∙ ap (answer_by c.args.line.now) (sym c.in-OfOne.is ∙ c.form.ensures)

pub returns-in-OfTwo : goal.returns-in-OfTwo
unfolding answer_of
returns-in-OfTwo c = c.two_call.ensures ∙ ap (answer_by c.args.line.now) (sym c.in-OfTwo.is ∙ c.form.ensures)

pub returns-in-Product : goal.returns-in-Product
unfolding answer_of
returns-in-Product c = c.product_call.ensures ∙ ap (answer_by c.args.line.now) (sym c.in-Product.is ∙ c.form.ensures)

pub returns-in-Cast : goal.returns-in-Cast
unfolding answer_of
returns-in-Cast c = c.cast_call.ensures ∙ ap (answer_by c.args.line.now) (sym c.in-Cast.is ∙ c.form.ensures)
