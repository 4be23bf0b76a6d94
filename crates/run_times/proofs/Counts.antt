-- The count of a run: a place is below it exactly where its instant is not past the last.
use mathlib.Core.Path.{◌≡◌, refl, sym, ◌∙◌}
use mathlib.Core.Bool.{Bool, true, false}
use mathlib.Core.Logic.{⊎_elim, ◌⊎◌, inl, inr}
use Prim.Native.Nat.{ℕ, ◌+◌, ◌-◌, ◌*◌, ◌/◌, ◌≤◌, ◌<◌}
use native.Mathlib.Nat.{le-div_iff_mul-le}
use native.Mathlib.Omega.{arith}
use lib.Dec.{leb, ltb}
use borrow.Author.Tests.{lt-ltb, le-ltb, ltb-true, ltb-false, le-leb, lt-leb}
use Rattle.run_times.specs.Occurrences.{Times, count_of}
use Rattle.run_times.specs.Laws.{ThereExactly}

-- no occurrence, or at least the first
pub count_none : (t : Times) → t.last < t.first → count_of t ≡ 0
unfolding count_of
count_none t h = rw (lt-ltb t.last t.first h)

count_some : (t : Times) → t.first ≤ t.last → count_of t ≡ (t.last - t.first) / t.step + 1
unfolding count_of
count_some t h = rw (le-ltb t.last t.first h)

pub one_there : (t : Times) → t.first ≤ t.last → 1 ≤ count_of t
one_there t h = omega (arith, count_some t h)

pub before_or_not : (a b : ℕ) → (a < b) ⊎ (b ≤ a)
before_or_not a b = go (ltb a b) refl
  where
    go : (x : Bool) → ltb a b ≡ x → (a < b) ⊎ (b ≤ a)
    go true e = inl (ltb-true a b e)
    go false e = inr (ltb-false a b e)

module _ (t : Times) (pos : 0 < t.step) where
  -- an occurrence is there while its instant is not past the last
  pub not_past : (p : ℕ) → p < count_of t → t.first + p * t.step ≤ t.last
  not_past p h =
      ⊎_elim (λ b. absurd (omega (arith, count_none t b)))
      (λ b.
      let e = count_some t b in
      let q : p ≤ (t.last - t.first) / t.step = omega arith in
      let m : p * t.step ≤ t.last - t.first = (le-div_iff_mul-le pos).0 q in
      omega arith)
      (before_or_not t.last t.first)

  pub is_there : (p : ℕ) → t.first + p * t.step ≤ t.last → p < count_of t
  is_there p h =
      let b : t.first ≤ t.last = omega arith in
      let e = count_some t b in
      let q : p ≤ (t.last - t.first) / t.step = (le-div_iff_mul-le pos).1 (omega arith) in
      omega arith

  -- as one comparison of ticks
  pub reached_by : (p : ℕ) → leb (t.first + p * t.step) t.last ≡ ltb p (count_of t)
  reached_by p =
      ⊎_elim (λ h. le-leb _ _ (not_past p h) ∙ sym (lt-ltb _ _ h))
      (λ h.
      ⊎_elim (λ l. lt-leb _ _ l ∙ sym (le-ltb _ _ h)) (λ l. absurd (omega (arith, is_there p l)))
      (before_or_not t.last (t.first + p * t.step)))
      (before_or_not p (count_of t))

pub there_exactly : ThereExactly
there_exactly t p pos = record { only = not_past t pos p; always = is_there t pos p }
