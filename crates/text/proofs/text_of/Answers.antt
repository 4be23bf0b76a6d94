use mathlib.Core.Path.{ap, sym, ◌∙◌}
use mathlib.Core.Logic.{inl, inr}
use Rattle.value.proofs.Good.{good}
use Rattle.value.proofs.KindParts.{moment_good}
use Rattle.text_durations.specs.Spelling.{duration_text_of}
use Rattle.text.specs.Writing.{text_of}
use Rattle.text.proofs.text_of.Goals as goal

pub layout_text-requires : goal.layout_text-requires
layout_text-requires c = (good _ (moment_good _ c.requires _ _ c.in-Moment.is).1).time

pub returns-in-Moment : goal.returns-in-Moment
unfolding text_of
returns-in-Moment c = c.layout_text.ensures ∙ ap text_of (sym c.in-Moment.is)

pub returns-in-DayTime : goal.returns-in-DayTime
unfolding text_of
returns-in-DayTime c = c.text_of.ensures ∙ elim c.in-DayTime.is [
  | inl w ↦ ap duration_text_of w.1 ∙ ap text_of (sym w.1)
  | inr w ↦ ap duration_text_of w.1 ∙ ap text_of (sym w.1)
]
