use borrow.Author.Tests.{eq-eqb, ne_eqb}
use Rattle.text_checks.specs.Reading.{zone_is}
use Rattle.text_checks.proofs.zone_is.Goals as goal

pub returns-then-sign-eq0 : goal.returns-then-sign-eq0
unfolding zone_is
returns-then-sign-eq0 c = simp (eq-eqb _ _ c.if-sign-eq0.true)

pub returns-then-n-eq0 : goal.returns-then-n-eq0
unfolding zone_is
returns-then-n-eq0 c = simp (eq-eqb _ _ c.if-n-eq0.true, eq-eqb _ _ c.if-sign-eq45.true, ← c.offset_minutes-n.ensures, ne_eqb _ _ c.if-sign-eq0.false)

pub returns-then-sign-eq45 : goal.returns-then-sign-eq45
unfolding zone_is
returns-then-sign-eq45 c = simp (ne_eqb _ _ c.if-n-eq0.false, eq-eqb _ _ c.if-sign-eq45.true, ← c.offset_minutes-n.ensures, ne_eqb _ _ c.if-sign-eq0.false)

pub returns : goal.returns
unfolding zone_is
returns c = simp (ne_eqb _ _ c.if-sign-eq45.false, ← c.offset_minutes-n.ensures, ne_eqb _ _ c.if-sign-eq0.false)
