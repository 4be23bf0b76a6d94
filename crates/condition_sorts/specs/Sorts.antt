-- Document 01, "Conditions": "Kinds are settled by the text alone. Only values of one kind are compared; `and`, `or` and the
-- whole condition need truth values, which are never compared or added." Which kinds fit each operation of "Operations".
use Rattle.std.specs.Prelude.{Bool, true, false}
use Rattle.basis.specs.Choice.{pick}
use Rattle.value.specs.Rows.{same_kind, is_moment, is_dated, is_clocked}
use Rattle.value.specs.declared.Kind.{Kind}
use Rattle.value.specs.declared.Kind.TheVariants as K
use Rattle.operation_casting.specs.Casts.{casts_to}
use Rattle.condition_symbols.specs.declared.Op.{Op}
use Rattle.condition_operators.specs.Roles.{role_of, joins}
use Rattle.condition_operators.specs.declared.Role.{Role}
use Rattle.condition_operators.specs.declared.Role.TheVariants.{Joins, Compares, Adds, Subtracts}
use Rattle.condition_sorts.specs.declared.Sort.{Sort}
use Rattle.condition_sorts.specs.declared.Sort.TheVariants.{Clash, Truth, Of}

-- whether a kind takes a duration of another: "dateTime ± yearMonthDuration .. Dates likewise", "dateTime ± dayTimeDuration",
-- "A date does so ..", "A time wraps .."
unfoldable pub takes : Kind → Kind → Bool
takes j k =
    pick (same_kind k K.DayTimeDuration) (pick (is_dated j) true (is_clocked j)) (pick (same_kind k K.YearMonthDuration) (is_dated j) false)

-- "Only values of one kind are compared"
unfoldable pub compared_kinds : Kind → Kind → Sort
compared_kinds j k = pick (same_kind j k) Truth Clash

-- "A duration may stand left of plus"; "Durations of one kind add"
unfoldable pub added_kinds : Kind → Kind → Sort
added_kinds j k = pick (takes j k) (Of j) (pick (takes k j) (Of k) (pick (is_moment j) Clash (pick (same_kind j k) (Of j) Clash)))

-- "dateTime - dateTime, date - date, time - time: a dayTimeDuration"; "Durations of one kind .. subtract"
unfoldable pub less_kinds : Kind → Kind → Sort
less_kinds j k = pick (takes j k) (Of j) (pick (same_kind j k) (pick (is_moment j) (Of K.DayTimeDuration) (Of j)) Clash)

-- two kinds with an operator between, by what it does
abbrev pub kinds_of : Role → Kind → Kind → Sort
kinds_of (Joins by) j k = Clash
kinds_of (Compares less equal greater) j k = compared_kinds j k
kinds_of Adds j k = added_kinds j k
kinds_of Subtracts j k = less_kinds j k

-- the sort of two parts with an operator between
abbrev pub sort_two : Op → Sort → Sort → Sort
sort_two o Clash b = Clash
sort_two o Truth Clash = Clash
sort_two o Truth Truth = pick (joins (role_of o)) Truth Clash
sort_two o Truth (Of k) = Clash
sort_two o (Of j) Clash = Clash
sort_two o (Of j) Truth = Clash
sort_two o (Of j) (Of k) = kinds_of (role_of o) j k

-- of a part that is cast
abbrev pub sort_cast : Kind → Sort → Sort
sort_cast k Clash = Clash
sort_cast k Truth = Clash
sort_cast k (Of j) = pick (casts_to j k) (Of k) Clash

-- of a part times a whole number: "a duration times a whole number"
abbrev pub sort_times : Sort → Sort
sort_times Clash = Clash
sort_times Truth = Clash
sort_times (Of k) = pick (is_moment k) Clash (Of k)
