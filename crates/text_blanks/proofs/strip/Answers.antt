use mathlib.Core.Path.{◌≡◌, ◌∙◌}
use native.Mathlib.Omega.{arith}
use mathlib.Core.List.{reverse}
use lib.ListN.{drop, length, take}
use borrow.Author.Rules.{rules}
use borrow.Author.Tests.{tests}
use Rattle.std.specs.List.{prefix_len, suffix_len}
use Rattle.std.proofs.lemmas.List.{take_rest, length-drop}
use Rattle.std.proofs.lemmas.List.Folds.{length-prefix_len}
use Rattle.std.proofs.lemmas.Iterator.{YieldsList-from_slice}
use Rattle.std.proofs.lemmas.Iterator.Adapters.{YieldsList-from_rev_slice}
use Rattle.std.proofs.lemmas.Iterator.Search.{YieldsList-from_take_while}
use Rattle.std.proofs.lemmas.Iterator.Consumers.{count_from_yields_List}
use Rattle.text_blanks.specs.Blanks.{is_blank, leading_blanks}
use Rattle.text_blanks.proofs.Ends.{lead_counts, lead_le, rear_counts}
use Rattle.text_blanks.proofs.Laws.{stripped_by}
use Rattle.text_blanks.proofs.strip.Goals as goal

pub returns : goal.returns
returns c =
    let s = c.args.s.now in
    let n : c.count-start.result ≡ length (take (prefix_len is_blank s) s) =
    count_from_yields_List _ _ c.count-start.ensures.ran (YieldsList-from_take_while _ is_blank (YieldsList-from_slice s cc) c.take_while.ensures.closure c.take_while.ensures.done (λ x b q k. search (rules, tests))) in
    let rest = drop c.count-start.result s in
    let m : c.count-trailing.result ≡ length (take (suffix_len is_blank rest) (reverse rest)) =
    count_from_yields_List _ _ c.count-trailing.ensures.ran (YieldsList-from_take_while _ is_blank (YieldsList-from_rev_slice rest (cc (take_rest s c.count-start.result))) c.take_while-2.ensures.closure c.take_while-2.ensures.done (λ x b q k. search (rules, tests))) in
    let e : c.count-start.result ≡ leading_blanks s = n ∙ length-prefix_len is_blank s ∙ lead_counts s in
    stripped_by s e (omega (arith, e, lead_le s, m, length-prefix_len is_blank (reverse rest), rear_counts rest, length-drop c.count-start.result s))
