-- Document 02, a, "Blanks round a value": "XSD collapses white space for these kinds, so leading and trailing bytes 9, 10, 13 and 32 are
-- no part of the value, in literals and in fields." What of a text is the value: where it starts and where it ends.
use Rattle.std.specs.Prelude.{Bool, List, [], ◌∷◌, ℕ, suc, ◌+◌, ◌-◌, eqb, take, drop}
use Rattle.basis.specs.Choice.{pick, both, all_pass, among}
use Rattle.text_blanks.specs.declared.Stripped.{Stripped}

-- tab, newline, carriage return and space, and no other byte
abbrev pub blanks : List ℕ
blanks = 9 ∷ 10 ∷ 13 ∷ 32 ∷ []

unfoldable pub is_blank : ℕ → Bool
is_blank b = among blanks b

-- a text of blanks alone, the empty one too
unfoldable pub only_blanks : List ℕ → Bool
only_blanks s = all_pass is_blank s

-- how many blanks a text begins with
unfoldable pub leading_blanks : List ℕ → ℕ
leading_blanks [] = 0
leading_blanks (b ∷ s) = pick (is_blank b) (suc (leading_blanks s)) 0

-- how long a text is without the blanks that it ends with
unfoldable pub untrailed : List ℕ → ℕ
untrailed [] = 0
untrailed (b ∷ s) = pick (both (is_blank b) (eqb (untrailed s) 0)) 0 (suc (untrailed s))

-- where the value starts, after the leading blanks, and where it ends, before the trailing ones; in a text of blanks alone both are the
-- text's end
unfoldable pub stripped : List ℕ → Stripped
stripped s = record { start = leading_blanks s; end = leading_blanks s + untrailed (drop (leading_blanks s) s) }

-- the bytes of the value: those from its start up to its end
unfoldable pub bare : List ℕ → List ℕ
bare s = take ((stripped s).end - (stripped s).start) (drop (stripped s).start s)
