-- Document 01, "Conditions": how long a condition is, and what the readers give of a text that is longer.
use Rattle.std.specs.Prelude.{List, ℕ, length, leb}
use Rattle.basis.specs.Choice.{pick}
use Rattle.condition_grammar.specs.Grammar.{Parsed, none}
use Rattle.condition_grammar.specs.Trees.{Tree, parse}

-- "Length 1 to 240 bytes."
abbrev pub min_length : ℕ
min_length = 1

abbrev pub max_length : ℕ
max_length = 240

-- the tree that a text states; of a text that is longer than a condition none is read
unfoldable pub parse_within : List ℕ → Parsed Tree
parse_within s = pick (leb (length s) max_length) (parse s) none
