use mathlib.Core.Path.{ap, sym, ◌∙◌}
use Rattle.basis.proofs.Tests.{no, yes}
use Rattle.run_cases.specs.Carried.{read_meaning}
use Rattle.run_cases.proofs.Fields.{read_spans_good}
use Rattle.run_cases.proofs.Showing.{plain_shown, plain_further_shown, unread_shown, run_shown}
use Rattle.run_cases.proofs.at_place.Goals as goal

pub returns-then-place-eq0 : goal.returns-then-place-eq0
returns-then-place-eq0 c =
    plain_shown _ _ _ _ (no c.is_run.ensures c.if-not-is_run.true) c.alone.ensures c.if-place-eq0.true

pub returns-then-not-is_run : goal.returns-then-not-is_run
returns-then-not-is_run c =
    plain_further_shown _ _ _ _ (no c.is_run.ensures c.if-not-is_run.true) c.alone-then-not-is_run.ensures
    c.if-place-eq0.false

pub at_run-requires : goal.at_run-requires
at_run-requires c =
    let d = c in
    let b = d in
    (read_spans_good _ _ c.in-Ok.x b.requires.1 (ap read_meaning (sym c.in-Ok.is) ∙ d.run_read.ensures), b.requires.0)

pub returns-in-Err : goal.returns-in-Err
returns-in-Err c =
    let d = c in
    unread_shown _ _ _ _ c.in-Err.r (yes d.is_run.ensures d.if-not-is_run.false) c.alone-in-Err.ensures
    (ap read_meaning (sym c.in-Err.is) ∙ d.run_read.ensures)

pub returns-in-Ok : goal.returns-in-Ok
returns-in-Ok c =
    let d = c in
    run_shown _ _ _ _ c.in-Ok.x (yes d.is_run.ensures d.if-not-is_run.false)
    (ap read_meaning (sym c.in-Ok.is) ∙ d.run_read.ensures)
    c.at_run.ensures
