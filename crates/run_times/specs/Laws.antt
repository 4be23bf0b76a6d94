-- What follows from the definitions of Occurrences.antt: which occurrences are there, when one passes the last year, what a good run has,
-- and which numbers a refusal has.
use Rattle.std.specs.Prelude.{◌≡◌, Bool, true, false, ℕ, ◌+◌, ◌-◌, ◌*◌, ◌≤◌, ◌<◌, eqb}
use Rattle.basis.specs.Choice.{pick}
use Rattle.basis.specs.Answer.{Reason, gives, refuses_for}
use Rattle.basis.specs.Exactly.{Exactly}
use Rattle.value.specs.Refusals.{beyond_result, bad_step, too_many}
use Rattle.value_instants.specs.Ticks.{past_years}
use Rattle.run_times.specs.Occurrences.{Times, most_occurrences, count_of, local_at_place, some_passes, run_checked}

-- "as long as the instant is not past the last": a place is below the count exactly where its instant is not; proved as `there_exactly`
abbrev pub ThereExactly : Type 0
ThereExactly = (t : Times) (p : ℕ) → 0 < t.step → Exactly (p < count_of t) (t.first + p * t.step ≤ t.last)

-- "an occurrence whose local year passes 9999": there is such a place below the count; proved as `passes_exactly`
abbrev pub PassesExactly : Type 0
PassesExactly = (t : Times) → Exactly (some_passes t ≡ true) ((p : ℕ) × (p < count_of t) × (past_years (local_at_place t p) ≡ true))

-- the last occurrence decides; proved as `last_passes`
abbrev pub LastPasses : Type 0
LastPasses = (t : Times) (n : ℕ) → n + 1 ≡ count_of t → past_years (local_at_place t n) ≡ some_passes t

-- none passes where the last instant, in first's local time, does not; proved as `none_passes`
abbrev pub NonePasses : Type 0
NonePasses = (t : Times) → 0 < t.step → past_years (t.local + (t.last - t.first)) ≡ false → some_passes t ≡ false

-- a good run is one that goes forward, has few occurrences, and none past the years; proved as `good_exactly`
pub record GoodTimes (t : Times) : Type 0 where
  pub above : 0 < t.step
  pub few : count_of t ≤ most_occurrences
  pub within : (p : ℕ) → p < count_of t → past_years (local_at_place t p) ≡ false

abbrev pub GoodExactly : Type 0
GoodExactly = (t : Times) → Exactly (run_checked t ≡ gives tt) (GoodTimes t)

-- a run is refused with 17, 18 or 4; proved as `run_numbers`
abbrev pub of_run : ℕ → Bool
of_run n = pick (eqb n bad_step) true (pick (eqb n too_many) true (eqb n beyond_result))

abbrev pub RunNumbers : Type 0
RunNumbers = (t : Times) (r : Reason) → run_checked t ≡ refuses_for r → of_run r.number ≡ true
