use mathlib.Core.Path.{sym, ◌∙◌}
use native.Mathlib.Omega.{arith}
use lib.ListN.{length}
use borrow.Author.Tests.{eqb-true, eqb-false}
use Rattle.text_fields.proofs.Fields.{no_field_lem, made_field, other_field, own_field}
use Rattle.text_fields.proofs.read.Goals as goal
use Rattle.text_fields.proofs.read.Goals.{else-n-eq-SECOND-via-then-n-eq-SECOND+else-not-is_empty, else-n-eq-SECOND-via-else-n-eq-SECOND}

pub returns-in_default : goal.returns-in_default
returns-in_default c = no_field_lem _ _ _ _ c.in_default.ensures (rw c.numbered.ensures)

pub returns-then-not-is_empty : goal.returns-then-not-is_empty
returns-then-not-is_empty c =
    let l = eqb-false (length c.args.made.now) 0 (sym c.is_empty.ensures ∙ c.if-not-is_empty.true) in
    made_field _ _ _ _ c.in-Some.ensures.there (omega (arith, c.if-n-eq-SECOND.true)) (omega (arith, l)) c.read.ensures

pub returns : goal.returns
returns c =
    let f = c.in-Some.ensures in
    elim c.else-n-eq-SECOND.branch [
      | else-n-eq-SECOND-via-then-n-eq-SECOND+else-not-is_empty w ↦ own_field _ _ _ _ f.there (omega (arith, eqb-true (length c.args.made.now) 0 (sym w.is_empty.ensures ∙ w.if-not-is_empty.false))) f.text c.read-2.ensures
      | else-n-eq-SECOND-via-else-n-eq-SECOND w ↦ other_field _ _ _ _ f.there w.if-n-eq-SECOND.false f.text c.read-2.ensures
    ]
