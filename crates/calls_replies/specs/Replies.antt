-- A reply: the text of an answer, with room for every answer. Numbers in it have no leading zeros, and a minus before them
-- where they are below zero.
use Rattle.std.specs.Prelude.{Bool, List, [], ◌++◌, ℕ}
use Rattle.basis.specs.Choice.{pick}
use Rattle.basis.specs.Letters.{bytes}
use Rattle.numerals.specs.Writing.{decimal, fraction_text}

abbrev pub reply_size : ℕ
reply_size = 200

-- a minus, or nothing
abbrev pub sign_text : Bool → List ℕ
sign_text negative = pick negative (bytes "-") []

-- a number by its sign and magnitude, with a fraction that vanishes if zero
unfoldable pub number_text : Bool → ℕ → ℕ → List ℕ
number_text negative n ticks = sign_text negative ++ (decimal n ++ fraction_text ticks)
