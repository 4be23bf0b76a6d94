use mathlib.Core.Path.{◌∙◌, sym}
use mathlib.Core.Logic.{inl, inr}
use native.Mathlib.Omega.{arith}
use lib.Dec.{eqb}
use lib.ListN.{drop}
use borrow.Author.Rules.{rules}
use borrow.Author.Tests.{tests}
use Rattle.std.proofs.lemmas.List.{take_rest, length-drop}
use Rattle.std.proofs.lemmas.Iterator.{YieldsList-from_slice}
use Rattle.std.proofs.lemmas.Iterator.Search.{position_from_yields_List}
use Rattle.timetable.proofs.Parting.{before_end, found_at, found_none}
use Rattle.timetable.proofs.parts.offset_of.Goals as goal

-- past the end
pub returns-in_default : goal.returns-in_default
returns-in_default c =
    let h = c.in_default.ensures.lookup.0 in
    elim h [ inl p ↦ omega (arith, before_end c.args.c c.args.s.now c.args.at (omega arith)) | inr p ↦ absurd (omega arith) ]

pub returns-in-Some-position : goal.returns-in-Some-position
returns-in-Some-position c =
    let a = c.args in
    let rest = drop a.at a.s.now in
    let looked = position_from_yields_List (λ b. eqb b a.c) _ _ c.position.result c.position.ensures.ran (YieldsList-from_slice rest (cc (c.in-Some.ensures.lookup.0.2, take_rest a.s.now a.at))) (λ x b q k. search (rules, tests)) in
    omega (arith, found_at a.c rest c.in-Some-position.i (sym c.in-Some-position.is ∙ looked))

pub returns-in-None : goal.returns-in-None
returns-in-None c =
    let a = c.args in
    let rest = drop a.at a.s.now in
    let looked = position_from_yields_List (λ b. eqb b a.c) _ _ c.position.result c.position.ensures.ran (YieldsList-from_slice rest (cc (c.in-Some.ensures.lookup.0.2, take_rest a.s.now a.at))) (λ x b q k. search (rules, tests)) in
    omega (arith, c.in-Some.ensures.lookup.0, length-drop a.at a.s.now, found_none a.c rest (sym c.in-None.is ∙ looked))
