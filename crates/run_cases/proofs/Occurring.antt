-- The occurrences of a run as a list of cases: how many they are, and which stands at a place.
use mathlib.Core.Path.{◌≡◌, refl, ap, sym, ◌∙◌}
use mathlib.Core.List.{List, [], ◌∷◌}
use Prim.Native.Nat.{ℕ, zero, suc, ◌+◌, ◌≤◌, ◌<◌}
use native.Mathlib.Omega.{arith}
use lib.Dec.{ltb}
use lib.ListN.{length, get_or}
use borrow.Author.Tests.{le-ltb}
use Rattle.run_times.specs.Occurrences.{most_occurrences}
use Rattle.run_cases.specs.Cases.{Case, miss_case, case_at}
use Rattle.run_cases.specs.StandsFor.{RunFields, occurrence_case, occurrences, or_miss}
use Rattle.run_cases.proofs.Places.{case_there, case_past}

module _ (line : List ℕ) (r : RunFields) where
  count_is : (p n : ℕ) → length (occurrences line r p n) ≡ n
  unfolding occurrences
  count_is p zero = refl
  count_is p (suc n) = ap suc (count_is (suc p) n)

  found_in : (p n i : ℕ) → i < n → get_or (occurrences line r p n) i miss_case ≡ occurrence_case line r (p + i)
  unfolding occurrences
  found_in p zero i h = absurd (omega arith)
  found_in p (suc n) zero h = let e : p ≡ p + 0 = omega arith in ap (λ (x : ℕ). occurrence_case line r x) e
  found_in p (suc n) (suc i) h =
      let e : suc p + i ≡ p + suc i = omega arith in
      found_in (suc p) n i (omega arith) ∙ ap (λ (x : ℕ). occurrence_case line r x) e

  -- the cases of a good run with so many occurrences
  abbrev cases : ℕ → List Case
  cases n = or_miss (occurrences line r 0 n)

  pub run_empty : (n : ℕ) → n ≡ 0 → cases n ≡ miss_case ∷ []
  unfolding occurrences
  run_empty zero e = refl
  run_empty (suc n) e = absurd (omega arith)

  pub run_counted : (n : ℕ) → 1 ≤ n → length (cases n) ≡ n
  unfolding occurrences
  run_counted zero h = absurd (omega arith)
  run_counted (suc n) h = ap suc (count_is 1 n)

  pub run_there : (n p : ℕ) → p < n → case_at (cases n) p ≡ occurrence_case line r p
  unfolding occurrences
  run_there zero p h = absurd (omega arith)
  run_there (suc n) p h =
      let e : 0 + p ≡ p = omega arith in
      case_there (cases (suc n)) p (omega (arith, run_counted (suc n) (omega arith)))
      ∙ found_in 0 (suc n) p h
      ∙ ap (λ (x : ℕ). occurrence_case line r x) e

  pub run_further : (n p : ℕ) → n ≤ p → case_at (cases n) p ≡ miss_case
  unfolding occurrences
  run_further zero zero h = case_there (miss_case ∷ []) 0 (omega arith)
  run_further zero (suc p) h = case_past (miss_case ∷ []) (suc p) (omega arith)
  run_further (suc n) p h = case_past (cases (suc n)) p (omega (arith, run_counted (suc n) (omega arith)))

  pub run_more : (n p : ℕ) → ltb (p + 1) (length (cases n)) ≡ ltb (p + 1) n
  unfolding occurrences
  run_more zero p = le-ltb (p + 1) 1 (omega arith) ∙ sym (le-ltb (p + 1) 0 (omega arith))
  run_more (suc n) p = ap (ltb (p + 1)) (ap suc (count_is 1 n))

  pub run_some : (n : ℕ) → 1 ≤ length (cases n)
  unfolding occurrences
  run_some zero = omega arith
  run_some (suc n) = omega arith

  pub run_few : (n : ℕ) → n ≤ most_occurrences → length (cases n) ≤ most_occurrences
  unfolding occurrences
  run_few zero h = omega arith
  run_few (suc n) h = omega (arith, count_is 1 n)
