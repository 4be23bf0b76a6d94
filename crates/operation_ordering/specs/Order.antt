-- Document 01, "Operations", order and equality: dateTimes by UTC instant; dates by the instant at which they start;
-- times as if on 1972-12-31, without wrapping round the day; durations by their number. A value without zone counts in
-- the given offset, which is UTC in the calls of document 01.
use Rattle.std.specs.Prelude.{ℕ, ◌+◌, ltb, Result, Ok, Err}
use Rattle.basis.specs.Choice.{pick, both}
use Rattle.basis.specs.Answer.{Answer, gives, refuses_for, refuses}
use Rattle.value.specs.Reasons.{reason_of}
use Rattle.value.specs.Refusals.{outside, wrong_kind}
use Rattle.value.specs.Durations.{plus_half, minus_half, plus_ticks, minus_ticks}
use Rattle.value.specs.Values.{ok_offset}
use Rattle.value.specs.Rows.{same_kind}
use Rattle.value.specs.Kinds.{kind_of, ok_value}
use Rattle.value_instants.specs.Ticks.{instant_of}
use Rattle.value.specs.declared.Offset.{Offset}
use Rattle.value.specs.declared.Value.{Value}
use Rattle.value.specs.declared.Value.TheVariants.{Moment, DayTime, YearMonth}
use Rattle.std.specs.declared.cmp.Ordering.{Ordering}
use Rattle.std.specs.declared.cmp.Ordering.TheVariants as V
use Rattle.value.specs.declared.Refusal.{Refusal}

pub data Order : Type 0 where
  less : Order
  equal : Order
  greater : Order

-- the order that the code's answer is
abbrev pub ordered : Ordering → Order
ordered V.Less = less
ordered V.Equal = equal
ordered V.Greater = greater

-- what an answer says: an order, or the number of a refusal
abbrev pub compared_meaning : Result Ordering Refusal → Answer Order
compared_meaning (Ok o) = gives (ordered o)
compared_meaning (Err r) = refuses_for (reason_of r)

-- what a value is ordered by, as the whole number up - down: its instant (a date is at 00:00:00, a time on 1972-12-31),
-- or a duration's number
unfoldable pub up : Offset → Value → ℕ
up o (Moment k d) = instant_of o d
up o (DayTime t) = plus_ticks t
up o (YearMonth m) = plus_half m.negative m.months

unfoldable pub down : Offset → Value → ℕ
down o (Moment k d) = 0
down o (DayTime t) = minus_ticks t
down o (YearMonth m) = minus_half m.negative m.months

abbrev pub order : ℕ → ℕ → Order
order p q = pick (ltb p q) less (pick (ltb q p) greater equal)

-- the order of two values of one kind: that of up - down
abbrev pub value_order : Offset → Value → Value → Order
value_order o x y = order (up o x + down o y) (up o y + down o x)

unfoldable pub order_in : Offset → Value → Value → Answer Order
order_in o a b =
    pick
    (both (ok_value a) (ok_value b))
    (pick (same_kind (kind_of a) (kind_of b)) (gives (value_order o a b)) (refuses wrong_kind))
    (refuses outside)

-- in any zone: one beyond its bounds is 16
unfoldable pub order_for : Offset → Value → Value → Answer Order
order_for zone a b = pick (ok_offset zone) (order_in zone a b) (refuses outside)
