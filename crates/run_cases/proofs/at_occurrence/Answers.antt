use Prim.Native.Nat.{ℕ, ◌<◌}
use mathlib.Core.Path.{ap, sym, ◌∙◌}
use native.Mathlib.Omega.{arith}
use borrow.Author.Tests.{ltb-true}
use Rattle.basis.proofs.Tests.{no, yes}
use Rattle.value.proofs.RowLaws.{date_time_ok}
use Rattle.value_instants.specs.Ticks.{placed_at}
use Rattle.value_instants.proofs.Locals.{placed_good}
use Rattle.value.proofs.Spans.{has_ticks}
use Rattle.run_times.specs.Occurrences.{count_of}
use Rattle.run_times.specs.Carried.{span_times}
use Rattle.run_cases.proofs.Showing.{placed_is, placed_not, in_years_lem, there_shown, gone_shown}
use Rattle.run_cases.proofs.at_occurrence.Goals as goal

pub returns-then-not-reached : goal.returns-then-not-reached
returns-then-not-reached c = gone_shown _ _ _ _ c.alone.ensures (no c.reached.ensures c.if-not-reached.true)

pub placed-requires : goal.placed-requires
placed-requires c = (has_ticks c.occurrence-t.result _ c.occurrence-t.ensures).part

pub text_of-requires : goal.text_of-requires
text_of-requires c =
    let p = c in
    let b = p in
    date_time_ok _ (placed_good _ _ _ (sym c.in-Some.is ∙ p.placed.ensures) b.requires.0.zoned)

pub returns-in-None : goal.returns-in-None
returns-in-None c =
    let p = c in
    let o = p in
    let f = o in
    let b = f in
    let h : b.args.place < count_of (span_times b.args.run) = ltb-true _ _ (yes f.reached.ensures f.if-not-reached.false) in
    placed_not _ _
    (sym c.in-None.is
    ∙ p.placed.ensures
    ∙ ap (λ (n : ℕ). placed_at n b.args.zone) (has_ticks o.occurrence-t.result _ o.occurrence-t.ensures).ticks)
    (in_years_lem b.args.run b.args.zone _ b.requires.0 b.requires.1 (omega (arith, h)))

pub returns-in-Some : goal.returns-in-Some
returns-in-Some c =
    let p = c in
    let o = p in
    let f = o in
    let b = f in
    let h : b.args.place < count_of (span_times b.args.run) = ltb-true _ _ (yes f.reached.ensures f.if-not-reached.false) in
    there_shown b.args.run b.args.zone b.args.place b.requires.0 b.requires.1 h
    c.in-Some.d
    c.text_of.result
    o.reached-more.result
    (placed_is _ _ _
    (sym c.in-Some.is
    ∙ p.placed.ensures
    ∙ ap (λ (n : ℕ). placed_at n b.args.zone) (has_ticks o.occurrence-t.result _ o.occurrence-t.ensures).ticks)
    (in_years_lem b.args.run b.args.zone b.args.place b.requires.0 b.requires.1 h))
    c.text_of.ensures
    o.reached-more.ensures
