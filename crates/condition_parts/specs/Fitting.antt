-- Document 01, "Refusal numbers": 9 is given exactly when "kinds don't fit, in a condition or a library call". Which kinds fit in
-- a condition is settled by its text alone (Sorts.antt of crate `condition_sorts`); each operation has its own definition of what it refuses.
-- This ties the two together: on valid values, in every zone within its bounds, an operation is refused with 9 exactly where the kinds
-- clash. It is proved as `clash_is_9`.
use Rattle.std.specs.Prelude.{◌≡◌, Bool, true, ℕ, ◌≤◌}
use Rattle.basis.specs.Answer.{refuses}
use Rattle.basis.specs.Exactly.{Exactly}
use Rattle.value.specs.Kinds.{kind_of, ok_value}
use Rattle.value.specs.Refusals.{wrong_kind}
use Rattle.value.specs.Values.{ok_offset}
use Rattle.value.specs.declared.Offset.{Offset}
use Rattle.value.specs.declared.Kind.{Kind}
use Rattle.value.specs.declared.Value.{Value}
use Rattle.operation_ordering.specs.Order.{order_for}
use Rattle.operation_casting.specs.Casts.{cast_of}
use Rattle.operation_arithmetic.specs.Sums.{plus_of, minus_for}
use Rattle.operation_arithmetic.specs.Products.{times_of, max_factor}
use Rattle.condition_sorts.specs.Sorts.{compared_kinds, added_kinds, less_kinds, sort_cast, sort_times}
use Rattle.condition_sorts.specs.declared.Sort.TheVariants.{Clash, Of}

pub record ClashIs9 : Type 0 where
  pub of_plus : (a b : Value) → ok_value a ≡ true → ok_value b ≡ true → Exactly (added_kinds (kind_of a) (kind_of b) ≡ Clash) (plus_of a b ≡ refuses wrong_kind)
  pub of_minus : (zone : Offset) (a b : Value) → ok_offset zone ≡ true → ok_value a ≡ true → ok_value b ≡ true →
      Exactly (less_kinds (kind_of a) (kind_of b) ≡ Clash) (minus_for zone a b ≡ refuses wrong_kind)
  pub of_order : (zone : Offset) (a b : Value) → ok_offset zone ≡ true → ok_value a ≡ true → ok_value b ≡ true →
      Exactly (compared_kinds (kind_of a) (kind_of b) ≡ Clash) (order_for zone a b ≡ refuses wrong_kind)
  pub of_times : (a : Value) (negative : Bool) (n : ℕ) → ok_value a ≡ true → n ≤ max_factor →
      Exactly (sort_times (Of (kind_of a)) ≡ Clash) (times_of a negative n ≡ refuses wrong_kind)
  pub of_cast : (a : Value) (k : Kind) → ok_value a ≡ true → Exactly (sort_cast k (Of (kind_of a)) ≡ Clash) (cast_of a k ≡ refuses wrong_kind)
