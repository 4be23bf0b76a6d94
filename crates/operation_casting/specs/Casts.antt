-- Document 01, "Operations", casts: a kind to itself; dateTime to date or time; date to dateTime at 00:00:00. Zone kept.
use Rattle.std.specs.Prelude.{Bool, true, [], ◌∷◌}
use Rattle.basis.specs.Choice.{pick, every}
use Rattle.basis.specs.Answer.{Answer, gives, refuses}
use Rattle.value.specs.Refusals.{wrong_kind, outside}
use Rattle.value.specs.Rows.{same_kind, is_moment, own_parts, is_dated, kept}
use Rattle.value.specs.Kinds.{kind_of, ok_value}
use Rattle.value.specs.declared.Kind.{Kind}
use Rattle.value.specs.declared.OwnParts.{OwnParts}
use Rattle.value.specs.declared.Value.{Value}
use Rattle.value.specs.declared.Value.TheVariants as VV

-- every part of the first is one of the second
unfoldable pub own_within : OwnParts → OwnParts → Bool
own_within a b =
    every
    (pick a.year b.year true
    ∷ pick a.month b.month true
    ∷ pick a.day b.day true
    ∷ pick a.clock b.clock true
    ∷ [])

abbrev pub parts_within : Kind → Kind → Bool
parts_within j k = own_within (own_parts j) (own_parts k)

-- a kind with year, month and day to each kind whose parts it has, and to a kind that has all its parts and more:
-- date to dateTime
unfoldable pub casts_across : Kind → Kind → Bool
casts_across j k = every (is_dated j ∷ is_moment k ∷ pick (parts_within k j) true (parts_within j k) ∷ [])

unfoldable pub casts_to : Kind → Kind → Bool
casts_to j k = pick (same_kind j k) true (casts_across j k)

-- what the kind keeps of the record; a date's record is at 00:00:00 already
unfoldable pub cast_to : Kind → Value → Value
cast_to k (VV.Moment j d) = VV.Moment k (kept k d)
cast_to k (VV.DayTime t) = VV.DayTime t
cast_to k (VV.YearMonth m) = VV.YearMonth m

unfoldable pub cast_of : Value → Kind → Answer Value
cast_of a k = pick (ok_value a) (pick (casts_to (kind_of a) k) (gives (cast_to k a)) (refuses wrong_kind)) (refuses outside)
