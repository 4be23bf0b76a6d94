-- Document 01, "Conditions": "at most sixteen parentheses deep (openings less closings outside quotes, at every point of the
-- text; after an unclosed quote all is inside)". Openings and closings are counted apart, so the difference may go below zero.
use Rattle.std.specs.Prelude.{Bool, true, false, not, List, [], ◌∷◌, ℕ, ◌+◌, ◌-◌, ltb, eqb}
use Prim.Native.Char.{code}
use Rattle.basis.specs.Choice.{pick}
use Rattle.condition_words.specs.Words.{quote}

abbrev pub opening : ℕ
opening = code "("

abbrev pub closing : ℕ
closing = code ")"

abbrev pub max_depth : ℕ
max_depth = 16

-- whether the rest of a text goes too deep somewhere, after so many openings and closings, outside quotes or inside
unfoldable pub deep_from : ℕ → ℕ → Bool → List ℕ → Bool
deep_from opened closed quoted [] = false
deep_from opened closed quoted (b ∷ bs) =
    pick (eqb b quote) (deep_from opened closed (not quoted) bs)
    (pick quoted (deep_from opened closed quoted bs)
    (pick (eqb b opening) (pick (ltb max_depth (opened + 1 - closed)) true (deep_from (opened + 1) closed quoted bs))
    (pick (eqb b closing) (deep_from opened (closed + 1) quoted bs) (deep_from opened closed quoted bs))))

unfoldable pub deep : List ℕ → Bool
deep s = deep_from 0 0 false s
