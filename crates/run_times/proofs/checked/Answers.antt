use mathlib.Core.Path.{sym, ◌∙◌}
use native.Mathlib.Omega.{arith}
use borrow.Author.Tests.{ltb-true, ltb-false}
use Rattle.basis.proofs.Tests.{no, yes}
use Rattle.run_times.specs.Carried.{span_times}
use Rattle.run_times.proofs.Verdicts.{refused_step, refused_many, refused_beyond, refused_not}
use Rattle.run_times.proofs.checked.Goals as goal

pub returns-then-not-is_less : goal.returns-then-not-is_less
returns-then-not-is_less c =
    let b = c in
    c.refused.ensures ∙ refused_step (span_times b.args.r) (ltb-false _ _ (no c.is_less.ensures c.if-not-is_less.true))

pub reached-requires : goal.reached-requires
reached-requires c =
    (record { good = c.requires; above = ltb-true _ _ (yes c.is_less.ensures c.if-not-is_less.false) }, omega arith)

pub returns-then-reached : goal.returns-then-reached
returns-then-reached c =
    let d = c in
    let b = d in
    c.refused-then-reached.ensures ∙ refused_many (span_times b.args.r) (ltb-true _ _ (yes d.is_less.ensures d.if-not-is_less.false))
    (ltb-true _ _ (sym c.reached.ensures ∙ c.if-reached.true))

pub some_passes-requires : goal.some_passes-requires
some_passes-requires c =
    let d = c in
    let b = d in (
      record { good = b.requires; above = ltb-true _ _ (yes d.is_less.ensures d.if-not-is_less.false) },
      ltb-false _ _ (sym c.reached.ensures ∙ c.if-reached.false),
    )

pub returns-then-some_passes : goal.returns-then-some_passes
returns-then-some_passes c =
    let f = c in
    let d = f in
    let b = d in
    c.refused-then-some_passes.ensures ∙ refused_beyond (span_times b.args.r) (ltb-true _ _ (yes d.is_less.ensures d.if-not-is_less.false))
    (ltb-false _ _ (sym f.reached.ensures ∙ f.if-reached.false))
    (sym c.some_passes.ensures ∙ c.if-some_passes.true)

pub returns : goal.returns
returns c =
    let f = c in
    let d = f in
    let b = d in
    refused_not (span_times b.args.r) (ltb-true _ _ (yes d.is_less.ensures d.if-not-is_less.false))
    (ltb-false _ _ (sym f.reached.ensures ∙ f.if-reached.false))
    (sym c.some_passes.ensures ∙ c.if-some_passes.false)
