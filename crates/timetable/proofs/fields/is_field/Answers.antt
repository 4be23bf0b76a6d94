use mathlib.Core.Path.{sym, ◌∙◌}
use Rattle.std.proofs.Common.{Some, None}
use Rattle.std.proofs.lemmas.Bool.Decides.{Decides-eqb}
use Rattle.std.proofs.lemmas.List.{take_rest}
use Rattle.std.proofs.lemmas.Slice.Eq.{strip_prefix_is}
use Rattle.timetable.proofs.Words.{none_is, word_ends, word_goes_on, not_begun}
use Rattle.timetable.proofs.fields.is_field.Goals as goal

pub returns-in_default : goal.returns-in_default
returns-in_default c = rw c.is_empty.ensures (none_is _ _ _ c.in_default.ensures)

pub returns-in_default-strip_prefix : goal.returns-in_default-strip_prefix
returns-in_default-strip_prefix c =
    let k = strip_prefix_is Decides-eqb _ _ None c.in_default-strip_prefix.ensures.cases in
    not_begun _ _ _ c.in-Some.ensures _ (λ after e. k after (take_rest c.args.line.now c.in-Some.start ∙ e))

pub returns-then-ends_field : goal.returns-then-ends_field
returns-then-ends_field c =
    let k = strip_prefix_is Decides-eqb _ _ (Some c.in-Some-strip_prefix.after) c.in-Some-strip_prefix.ensures.cases in
    word_ends _ _ _ c.in-Some.ensures _ c.in-Some-strip_prefix.after.now (sym (take_rest c.args.line.now c.in-Some.start) ∙ k) (sym c.ends_field.ensures ∙ c.if-ends_field.true) c.contains.ensures.value

pub returns-else-ends_field : goal.returns-else-ends_field
returns-else-ends_field c =
    let k = strip_prefix_is Decides-eqb _ _ (Some c.in-Some-strip_prefix.after) c.in-Some-strip_prefix.ensures.cases in
    rw c.if-ends_field.false
    (word_goes_on _ _ _ c.in-Some.ensures _ c.in-Some-strip_prefix.after.now (sym (take_rest c.args.line.now c.in-Some.start) ∙ k) (sym c.ends_field.ensures ∙ c.if-ends_field.false))
