-- Document 01, "Conditions": "clauses joined by `or`", "tests joined by `and`", "two sums with `eq ne lt le gt ge` between", "terms
-- joined by `+` or `-`". What each operator does.
use Rattle.std.specs.Prelude.{Bool, true, false, not}
use Rattle.basis.specs.Choice.{pick}
use Rattle.condition_symbols.specs.declared.Op.{Op}
use Rattle.condition_symbols.specs.declared.Op.TheVariants as O
use Rattle.condition_operators.specs.declared.Role.{Role}
use Rattle.condition_operators.specs.declared.Role.TheVariants.{Joins, Compares, Adds, Subtracts}

-- `or` and `and` join truth values: a true left settles `or`, a false one `and`. A comparison says of a left value that is less, of one
-- that is equal and of one that is greater whether it holds. `+` adds, `-` subtracts.
abbrev pub role_of : Op → Role
role_of O.Or = Joins true
role_of O.And = Joins false
role_of O.Eq = Compares false true false
role_of O.Ne = Compares true false true
role_of O.Lt = Compares true false false
role_of O.Le = Compares true true false
role_of O.Gt = Compares false false true
role_of O.Ge = Compares false true true
role_of O.Plus = Adds
role_of O.Minus = Subtracts

-- `and` and `or` join truth values
abbrev pub joins : Role → Bool
joins (Joins by) = true
joins (Compares less equal greater) = false
joins Adds = false
joins Subtracts = false

-- whether a truth value left of an operator leaves the right side without evaluation: of `or` a true left, of `and` a false one
abbrev pub settles : Role → Bool → Bool
settles (Joins by) left = pick by left (not left)
settles (Compares less equal greater) left = false
settles Adds left = false
settles Subtracts left = false
