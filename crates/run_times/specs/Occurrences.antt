-- Document 02, b, "Runs of departures", over numbers of ticks: "It stands for first, first + step and so on, as long as the instant
-- is not past the last." "Refusals: 17 step not above zero, 18 over 1,440 occurrences, 4 an occurrence whose local year passes 9999;
-- in that order."
use Rattle.std.specs.Prelude.{Bool, true, false, ℕ, zero, suc, ◌+◌, ◌-◌, ◌*◌, ◌/◌, ltb, eqb}
use Rattle.basis.specs.Choice.{pick}
use Rattle.basis.specs.Answer.{Answer, gives, refuses}
use Rattle.value.specs.Refusals.{beyond_result, bad_step, too_many}
use Rattle.value_instants.specs.Ticks.{past_years}

-- first and last as instants, first's local time, and the step: how far it leads forward, 0 where it is not above zero
pub record Times : Type 0 where
  pub first : ℕ
  pub last : ℕ
  pub local : ℕ
  pub step : ℕ

-- a run has at most so many occurrences
abbrev pub most_occurrences : ℕ
most_occurrences = 1_440

-- how many it has: none where last is before first, else one for each step that does not lead past the last, and first itself
unfoldable pub count_of : Times → ℕ
count_of t = pick (ltb t.last t.first) 0 ((t.last - t.first) / t.step + 1)

-- the local time of the occurrence at a place
abbrev pub local_at_place : Times → ℕ → ℕ
local_at_place t p = t.local + p * t.step

-- whether a test holds at some place below n
unfoldable pub some_below : ℕ → (ℕ → Bool) → Bool
some_below zero f = false
some_below (suc n) f = pick (f n) true (some_below n f)

-- "an occurrence whose local year passes 9999"
unfoldable pub some_passes : Times → Bool
some_passes t = some_below (count_of t) (λ p. past_years (local_at_place t p))

-- "17 step not above zero, 18 over 1,440 occurrences, 4 .., in that order"
unfoldable pub run_checked : Times → Answer (Unit {0})
run_checked t =
    pick (eqb t.step 0) (refuses bad_step)
    (pick (ltb most_occurrences (count_of t)) (refuses too_many)
    (pick (some_passes t) (refuses beyond_result) (gives tt)))
