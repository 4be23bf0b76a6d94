use mathlib.Core.Path.{◌≡◌, sym, ◌∙◌}
use mathlib.Core.Logic.{inl, inr}
use native.Mathlib.Omega.{arith}
use lib.ListN.{drop, length, take}
use borrow.Author.Rules.{rules}
use borrow.Author.Tests.{tests}
use Rattle.std.specs.List.{prefix_len}
use Rattle.std.proofs.lemmas.List.{take_rest}
use Rattle.std.proofs.lemmas.List.Folds.{length-prefix_len}
use Rattle.std.proofs.lemmas.Iterator.{YieldsList-from_slice}
use Rattle.std.proofs.lemmas.Iterator.Search.{YieldsList-from_take_while}
use Rattle.std.proofs.lemmas.Iterator.Consumers.{count_from_yields_List}
use Rattle.condition_words.specs.Words.{belongs}
use Rattle.condition_words.proofs.Stretching.{stretch_past, counted}
use Rattle.condition_words.proofs.stretch_end.Goals as goal

-- past the end
pub returns-in_default : goal.returns-in_default
returns-in_default c =
    let h = c.in_default.ensures.lookup.0 in
    elim h [ inl p ↦ sym (stretch_past _ _ _ (omega arith)) | inr p ↦ absurd (omega arith) ]

pub returns : goal.returns
returns c =
    let a = c.args in
    let rest = drop a.at a.s.now in
    let e : c.in-Some.rest.now ≡ rest = c.in-Some.ensures.lookup.0.2 ∙ take_rest a.s.now a.at in
    let n : c.count.result ≡ length (take (prefix_len (belongs a.class) rest) rest) =
    count_from_yields_List _ _ c.count.ensures.ran (YieldsList-from_take_while _ (belongs a.class) (YieldsList-from_slice rest cc) c.take_while.ensures.closure c.take_while.ensures.done (λ x b q k. search (rules, tests))) in
    omega (arith, n, length-prefix_len (belongs a.class) rest, counted a.class a.s.now a.at)
