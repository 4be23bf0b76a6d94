-- What the productions (Productions.antt) derive and what the readers' grammar gives (`parse` of Trees.antt) are the same.
use Rattle.std.specs.Prelude.{◌≡◌, false, List, ℕ}
use Rattle.condition_depth.specs.Depth.{deep}
use Rattle.condition_grammar.specs.Grammar.{none, got}
use Rattle.condition_grammar.specs.Trees.{Tree, parse}
use Rattle.condition_grammar.specs.Productions.{States}

-- what `parse` gives is derived, of any text; proved as `parsed_is_stated`
abbrev pub ParsedIsStated : Type 0
ParsedIsStated = (s : List ℕ) (t : Tree) (n : ℕ) → parse s ≡ got t n → States s t

-- of a text that is not too deep, every derivation is what `parse` gives; proved as `stated_is_parsed`
abbrev pub StatedIsParsed : Type 0
StatedIsParsed = (s : List ℕ) (t : Tree) (x : States s t) → deep s ≡ false → parse s ≡ got t x.end

-- so where `parse` gives nothing, such a text states no tree; proved as `refused_states_none`
abbrev pub RefusedStatesNone : Type 0
RefusedStatesNone = (s : List ℕ) → deep s ≡ false → parse s ≡ none → (t : Tree) → States s t → ⊥

-- any text states at most one tree, however deep it is; proved as `one_tree`
abbrev pub OneTree : Type 0
OneTree = (s : List ℕ) (t u : Tree) → States s t → States s u → t ≡ u
