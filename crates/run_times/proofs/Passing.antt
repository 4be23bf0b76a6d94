-- Whether some occurrence's local year passes the last one: the last occurrence decides, and none does where the last instant itself, in
-- first's local time, does not.
use mathlib.Core.Path.{◌≡◌, refl, ap, sym, ◌∙◌}
use mathlib.Core.Bool.{Bool, true, false}
use mathlib.Core.Logic.{⊎_elim}
use Prim.Native.Nat.{ℕ, zero, suc, ◌+◌, ◌-◌, ◌*◌, ◌≤◌, ◌<◌}
use native.Mathlib.Nat.{mul-le-mul_right}
use native.Mathlib.Omega.{arith}
use Rattle.value_instants.specs.Ticks.{past_years}
use Rattle.value_instants.proofs.Years.{past_in_order}
use Rattle.run_times.specs.Occurrences.{Times, count_of, local_at_place, some_below, some_passes}
use Rattle.run_times.specs.Laws.{PassesExactly, LastPasses, NonePasses}
use Rattle.run_times.proofs.Counts.{count_none, not_past, before_or_not}

-- a test that holds at some place below n: what that says
some_at : (n : ℕ) (f : ℕ → Bool) → some_below n f ≡ true → (p : ℕ) × (p < n) × (f p ≡ true)
unfolding some_below
some_at zero f e = absurd (let z : ◌≡◌ {A = ℕ} 0 1 = cc in omega arith)
some_at (suc n) f e = go (f n) refl (λ h. some_at n f h)
  where
    go : (b : Bool) → f n ≡ b → (some_below n f ≡ true → (p : ℕ) × (p < n) × (f p ≡ true)) → (p : ℕ) × (p < suc n) × (f p ≡ true)
    go true h k = (n, omega arith, h)
    go false h k = let r = k (rw h at e) in (r.0, omega (arith, r.1), r.2)

some_when : (n : ℕ) (f : ℕ → Bool) (p : ℕ) → p < n → f p ≡ true → some_below n f ≡ true
unfolding some_below
some_when zero f p l h = absurd (omega arith)
some_when (suc n) f p l h =
    ⊎_elim (λ k. go (f n) refl (some_when n f p k h)) (λ k. (let e : n ≡ p = omega arith in rw (e, h))) (before_or_not p n)
  where
    go : (b : Bool) → f n ≡ b → some_below n f ≡ true → some_below (suc n) f ≡ true
    go true q k = rw q
    go false q k = rw q k

none_when : (n : ℕ) (f : ℕ → Bool) → ((p : ℕ) → p < n → f p ≡ false) → some_below n f ≡ false
unfolding some_below
none_when zero f h = refl
none_when (suc n) f h = rw (h n (omega arith)) (none_when n f (λ p l. h p (omega arith)))

-- a test that, where it fails at the last place, fails at all before
last_decides : (n : ℕ) (f : ℕ → Bool) → ((p : ℕ) → p < n → f n ≡ false → f p ≡ false) → some_below (suc n) f ≡ f n
unfolding some_below
last_decides n f h = go (f n) refl
  where
    go : (b : Bool) → f n ≡ b → some_below (suc n) f ≡ f n
    go true e = rw e
    go false e = rw e (none_when n f (λ p l. h p l e))

module _ (t : Times) where
  abbrev passes_at : ℕ → Bool
  passes_at p = past_years (local_at_place t p)

  earlier : (p n : ℕ) → p ≤ n → local_at_place t p ≤ local_at_place t n
  earlier p n h = let m : p * t.step ≤ n * t.step = mul-le-mul_right t.step h in omega arith

  -- no occurrence at all
  pub passes_empty : t.last < t.first → some_passes t ≡ false
  unfolding some_passes some_below
  passes_empty h = rw (count_none t h)

  pub passes_not : ((p : ℕ) → p < count_of t → past_years (local_at_place t p) ≡ false) → some_passes t ≡ false
  unfolding some_passes
  passes_not h = none_when (count_of t) passes_at h

  passes_at_lem : some_passes t ≡ true → (p : ℕ) × (p < count_of t) × (past_years (local_at_place t p) ≡ true)
  unfolding some_passes
  passes_at_lem e = some_at (count_of t) passes_at e

  passes_when : (p : ℕ) → p < count_of t → past_years (local_at_place t p) ≡ true → some_passes t ≡ true
  unfolding some_passes
  passes_when p l h = some_when (count_of t) passes_at p l h

  -- where none passes, the one at a place does not
  pub not_at : some_passes t ≡ false → (p : ℕ) → p < count_of t → past_years (local_at_place t p) ≡ false
  not_at e p l = go (past_years (local_at_place t p)) refl
    where
      go : (b : Bool) → past_years (local_at_place t p) ≡ b → past_years (local_at_place t p) ≡ false
      go true q = q ∙ sym (passes_when p l q) ∙ e
      go false q = q

pub passes_exactly : PassesExactly
passes_exactly t = record { only = passes_at_lem t; always = λ r. passes_when t r.0 r.1 r.2 }

pub last_passes : LastPasses
unfolding some_passes
last_passes t n e =
    let c : count_of t ≡ suc n = omega arith in
    sym
    (ap (λ (m : ℕ). some_below m (passes_at t)) c
    ∙ last_decides n (passes_at t) (λ p l h. past_in_order (local_at_place t p) (local_at_place t n) (earlier t p n (omega arith)) h))

pub none_passes : NonePasses
none_passes t pos h =
    passes_not t
    (λ p k. past_in_order (local_at_place t p) (t.local + (t.last - t.first)) (omega (arith, not_past t pos p k)) h)
