-- The refusals of a run in their order, by the tests that lead to each; what a good run has; and which numbers there are.
use mathlib.Core.Path.{◌≡◌, refl, ap, sym}
use mathlib.Core.Bool.{Bool, true, false}
use Prim.Native.Nat.{ℕ, ◌≤◌, ◌<◌}
use native.Mathlib.Omega.{arith}
use lib.Dec.{eqb, ltb}
use borrow.Author.Tests.{eq-eqb, ne_eqb, eqb-false, lt-ltb, le-ltb, ltb-false}
use Rattle.basis.specs.Choice.{pick}
use Rattle.basis.specs.Answer.{Answer, gives, refuses_for, refuses}
use Rattle.value.specs.Refusals.{beyond_result, bad_step, too_many}
use Rattle.run_times.specs.Occurrences.{Times, most_occurrences, count_of, some_passes, run_checked}
use Rattle.run_times.specs.Laws.{GoodTimes, GoodExactly, of_run, RunNumbers}
use Rattle.run_times.proofs.Passing.{passes_not, not_at}

pub refused_step : (t : Times) → t.step ≤ 0 → refuses bad_step ≡ run_checked t
unfolding run_checked
refused_step t z = rw (eq-eqb t.step 0 (omega arith))

module _ (t : Times) (above : 0 < t.step) where
  going : eqb t.step 0 ≡ false
  going = ne_eqb t.step 0 (λ e. absurd (omega arith))

  pub refused_many : most_occurrences < count_of t → refuses too_many ≡ run_checked t
  unfolding run_checked
  refused_many m = rw (going, lt-ltb most_occurrences (count_of t) m)

  pub refused_beyond : count_of t ≤ most_occurrences → some_passes t ≡ true → refuses beyond_result ≡ run_checked t
  unfolding run_checked
  refused_beyond m p = rw (going, le-ltb most_occurrences (count_of t) m, p)

  pub refused_not : count_of t ≤ most_occurrences → some_passes t ≡ false → gives tt ≡ run_checked t
  unfolding run_checked
  refused_not m p = rw (going, le-ltb most_occurrences (count_of t) m, p)

-- which answer it is
abbrev number_in : Answer (Unit {0}) → ℕ
number_in (gives x) = 0
number_in (refuses_for r) = r.number

positive : (n : ℕ) → (n ≡ 0 → ⊥) → 0 < n
positive n h = omega (arith, h)

has_good : (t : Times) → run_checked t ≡ gives tt → GoodTimes t
unfolding run_checked
has_good t e = go (eqb t.step 0) (ltb most_occurrences (count_of t)) (some_passes t) refl refl refl (ap number_in e)
  where
    go : (a b p : Bool) → eqb t.step 0 ≡ a → ltb most_occurrences (count_of t) ≡ b → some_passes t ≡ p
        → ◌≡◌ {A = ℕ} (number_in (pick a (refuses bad_step) (pick b (refuses too_many) (pick p (refuses beyond_result) (gives tt))))) 0
        → GoodTimes t
    go true b p ha hb hp q = absurd (omega arith)
    go false true p ha hb hp q = absurd (omega arith)
    go false false true ha hb hp q = absurd (omega arith)
    go false false false ha hb hp q =
        record { above = positive t.step (eqb-false _ _ ha); few = ltb-false _ _ hb; within = not_at t hp }

pub good_exactly : GoodExactly
good_exactly t = record { only = has_good t; always = λ g. sym (refused_not t g.above g.few (passes_not t g.within)) }

pub run_numbers : RunNumbers
unfolding run_checked
run_numbers t r e = go (eqb t.step 0) (ltb most_occurrences (count_of t)) (some_passes t) e
  where
    go : (a b p : Bool) → ◌≡◌ {A = Answer (Unit {0})} (pick a (refuses bad_step) (pick b (refuses too_many) (pick p (refuses beyond_result) (gives tt)))) (refuses_for r)
        → of_run r.number ≡ true
    go true b p q = sym (ap (λ (x : Answer (Unit {0})). of_run (number_in x)) q)
    go false true p q = sym (ap (λ (x : Answer (Unit {0})). of_run (number_in x)) q)
    go false false true q = sym (ap (λ (x : Answer (Unit {0})). of_run (number_in x)) q)
    go false false false q = cc
