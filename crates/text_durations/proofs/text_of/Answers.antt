use mathlib.Core.Path.{sym, ◌∙◌}
use native.Mathlib.Omega.{arith}
use Rattle.text_forms.specs.Carried.{form_in}
use Rattle.text_durations.proofs.Lengths.{text_zero, text_some}
use Rattle.text_durations.proofs.FormRows.{row_text, row_short, nothing_short}
use Rattle.text_durations.proofs.text_of.Goals as goal

pub from_slice-requires : goal.from_slice-requires
from_slice-requires c =
    (omega arith, omega (arith, nothing_short c.args.v c.kind.ensures c.row-row.result c.row-row.ensures c.amount_of-a.ensures))

pub returns-then-is_nothing : goal.returns-then-is_nothing
returns-then-is_nothing c =
    c.from_slice.ensures
    ∙ sym (text_zero (form_in c.row-row.result) c.amount_of-a.result (sym c.is_nothing.ensures ∙ c.if-is_nothing.true))
    ∙ row_text c.args.v c.kind.ensures c.row-row.result c.row-row.ensures c.amount_of-a.ensures

pub spelt-requires : goal.spelt-requires
spelt-requires c = row_short c.args.v c.kind.ensures c.row-row.result c.row-row.ensures c.amount_of-a.ensures c.requires

pub returns : goal.returns
returns c =
    c.spelt.ensures
    ∙ sym (text_some (form_in c.row-row.result) c.amount_of-a.result (sym c.is_nothing.ensures ∙ c.if-is_nothing.false))
    ∙ row_text c.args.v c.kind.ensures c.row-row.result c.row-row.ensures c.amount_of-a.ensures
