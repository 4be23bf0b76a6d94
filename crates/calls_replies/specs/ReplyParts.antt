-- docs/LINES.md, "The calculator": components are `name=number` pairs with one space between them, those that the kind has, in
-- the order `year month day hours minutes seconds zone`; of either duration kind all six.
use Rattle.std.specs.Prelude.{Bool, true, false, List, [], ◌∷◌, ◌++◌, ℕ, ℤ, pos, negsuc, nat_abs, None, Option, Some}
use Prim.Native.Char.{code}
use Prim.Native.String.{String}
use Rattle.basis.specs.Choice.{pick}
use Rattle.basis.specs.Letters.{bytes}
use Rattle.value_components.specs.Components.{ComponentParts, of_moment, of_duration}
use Rattle.value.specs.declared.Offset.TheVariants.{East, West}
use Rattle.value_components.specs.declared.Clock.{Clock}
use Rattle.value_components.specs.declared.Lasting.{Lasting}
use Rattle.calls_replies.specs.Replies.{number_text}
use Rattle.value.specs.declared.Offset.{Offset}

abbrev pub space : ℕ
space = code " "

abbrev pub plain : String → ℕ → List ℕ
plain name n = bytes name ++ number_text false n 0

-- a field that the kind has, and a space after it; the zone is the last of the pairs
abbrev pub date_field_text : List ℕ → Option ℕ → List ℕ
date_field_text name None = []
date_field_text name (Some n) = (name ++ number_text false n 0) ++ (space ∷ [])

-- "`seconds` has its fraction after a point, without final zeros, and no point where the fraction is zero"
abbrev pub clock_text : Clock → List ℕ
clock_text c =
    plain "hours=" c.hours ++ (plain " minutes=" c.minutes ++ (bytes " seconds=" ++ number_text false c.seconds c.part))

abbrev pub clock_field_text : Option Clock → List ℕ
clock_field_text None = []
clock_field_text (Some c) = clock_text c ++ (space ∷ [])

-- "the offset in minutes, with a minus west of UTC, or `none`"
abbrev pub zone_shown : Option Offset → List ℕ
zone_shown None = bytes "zone=none"
zone_shown (Some (East n)) = bytes "zone=" ++ number_text false n 0
zone_shown (Some (West n)) = bytes "zone=" ++ number_text true n 0

-- whether a number is below zero
abbrev pub is_negative : ℤ → Bool
is_negative (pos n) = false
is_negative (negsuc n) = true

-- a part of a duration with its fraction: a minus where either is below zero
abbrev pub signed_text : ℤ → ℤ → List ℕ
signed_text z fraction = number_text (pick (is_negative z) true (is_negative fraction)) (nat_abs z) (nat_abs fraction)

abbrev pub signed_part : String → ℤ → ℤ → List ℕ
signed_part name z fraction = bytes name ++ signed_text z fraction

abbrev pub lasting_text : Lasting → List ℕ
lasting_text l =
    signed_part "years=" l.years (pos 0)
    ++ (signed_part " months=" l.months (pos 0)
    ++ (signed_part " days=" l.days (pos 0)
    ++ (signed_part " hours=" l.hours (pos 0)
    ++ (signed_part " minutes=" l.minutes (pos 0) ++ signed_part " seconds=" l.seconds l.part))))

unfoldable pub parts_text : ComponentParts → List ℕ
parts_text (of_moment f) =
    date_field_text (bytes "year=") f.year
    ++ (date_field_text (bytes "month=") f.month ++ (date_field_text (bytes "day=") f.day ++ (clock_field_text f.clock ++ zone_shown f.zone)))
parts_text (of_duration l) = lasting_text l
