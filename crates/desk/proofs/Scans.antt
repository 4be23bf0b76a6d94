-- What `first_passing` and `all` tell: what is found passes the test, nothing before it does.
use mathlib.Core.Path.{◌≡◌, refl, sym, ap, ◌∙◌, subst}
use mathlib.Core.Bool.{Bool, true, false, true≢false, beq}
use mathlib.Core.Logic.{⊎_elim}
use Prim.Native.Nat.{ℕ, zero, suc, ◌+◌, ◌≤◌, ◌<◌}
use native.Mathlib.Nat.{not-suc-le-zero, eq-or-lt_of_le, le_of_suc-le-suc}
use native.Mathlib.Omega.{arith}
use Rattle.basis.specs.Choice.{pick}
use Rattle.basis.proofs.Tests.{both_left, both_right, both_true}
use Rattle.desk.specs.Scan.{first_passing, all}

pub beq_true : (b : Bool) → beq b true ≡ true → b ≡ true
beq_true true h = h
beq_true false h = h

pub beq_false : (b : Bool) → beq b false ≡ true → b ≡ false
beq_false true h = sym h
beq_false false h = refl

pub beq_other : (b : Bool) → beq b false ≡ false → b ≡ true
beq_other true h = refl
beq_other false h = sym h

pub beq_neither : (b : Bool) → beq b true ≡ false → b ≡ false
beq_neither true h = h
beq_neither false h = refl

-- ---- what is found passes, and is the least that does
pub first_found : (p : ℕ → Bool) (i n : ℕ) → first_passing p i n < i + n → p (first_passing p i n) ≡ true
unfolding first_passing
first_found p i zero l = absurd (omega arith)
first_found p i (suc n) l = go (p i) refl (first_found p (suc i) n)
  where
    go : (b : Bool) → p i ≡ b → (first_passing p (suc i) n < suc i + n → p (first_passing p (suc i) n) ≡ true) → p (pick (p i) i (first_passing p (suc i) n)) ≡ true
    go true e k = rw e e
    go false e k =
        let m : pick (p i) i (first_passing p (suc i) n) < i + suc n = l in
        let m2 = rw e at m in
        rw e (k (omega arith))

pub first_le : (p : ℕ → Bool) (i n j : ℕ) → i ≤ j → p j ≡ true → first_passing p i n ≤ j
unfolding first_passing
first_le p i zero j l h = l
first_le p i (suc n) j l h = go (p i) refl (λ m. first_le p (suc i) n j m h)
  where
    go : (b : Bool) → p i ≡ b → (suc i ≤ j → first_passing p (suc i) n ≤ j) → pick (p i) i (first_passing p (suc i) n) ≤ j
    go true e k = rw e l
    go false e k =
        rw e (⊎_elim (λ m. absurd (true≢false (sym h ∙ sym (ap p m) ∙ e))) (λ m. k m) (eq-or-lt_of_le l))

pub first_ge : (p : ℕ → Bool) (i n : ℕ) → i ≤ first_passing p i n
unfolding first_passing
first_ge p i zero = omega arith
first_ge p i (suc n) = go (p i) (first_ge p (suc i) n)
  where
    go : (b : Bool) → suc i ≤ first_passing p (suc i) n → i ≤ pick b i (first_passing p (suc i) n)
    go true k = omega arith
    go false k = omega arith

-- nothing before it passes
pub first_before : (p : ℕ → Bool) (i n j : ℕ) → i ≤ j → j < first_passing p i n → p j ≡ false
first_before p i n j l m = go (p j) refl
  where
    go : (b : Bool) → p j ≡ b → p j ≡ false
    go false e = e
    go true e = absurd (omega (arith, first_le p i n j l e))

-- what passes, with nothing before it that does, is what is found
pub first_is : (p : ℕ → Bool) (i n j : ℕ) → i ≤ j → j < i + n → p j ≡ true → ((m : ℕ) → i ≤ m → m < j → p m ≡ false) → first_passing p i n ≡ j
first_is p i n j l m h b =
    let le = first_le p i n j l h in
    let lt : first_passing p i n < i + n = omega arith in
    ⊎_elim (λ e. e) (λ s. absurd (true≢false (sym (first_found p i n lt) ∙ b (first_passing p i n) (first_ge p i n) s))) (eq-or-lt_of_le le)

-- where none passes
pub first_none : (p : ℕ → Bool) (i n : ℕ) → ((j : ℕ) → i ≤ j → j < i + n → p j ≡ false) → first_passing p i n ≡ i + n
unfolding first_passing
first_none p i zero b = omega arith
first_none p i (suc n) b =
    let e : first_passing p (suc i) n ≡ suc i + n = first_none p (suc i) n (λ j l m. b j (omega arith) (omega arith)) in
    let q : first_passing p (suc i) n ≡ i + suc n = omega (arith, e) in
    rw (b i (omega arith) (omega arith)) q

-- ---- all

pub all_at : (p : ℕ → Bool) (n i : ℕ) → i < n → all p n ≡ true → p i ≡ true
unfolding all
all_at p zero i l h = absurd (not-suc-le-zero l)
all_at p (suc n) i l h =
    ⊎_elim (λ e. subst (λ (k : ℕ). p k ≡ true) (sym e) (both_right (all p n) (p n) h)) (λ k. all_at p n i k (both_left (all p n) (p n) h))
    (eq-or-lt_of_le (le_of_suc-le-suc l))

pub all_fail : (p : ℕ → Bool) (n i : ℕ) → i < n → p i ≡ false → all p n ≡ false
all_fail p n i l e = go (all p n) refl
  where
    go : (b : Bool) → all p n ≡ b → all p n ≡ false
    go true h = absurd (true≢false (sym (all_at p n i l h) ∙ e))
    go false h = h

pub all_make : (p : ℕ → Bool) (n : ℕ) → ((i : ℕ) → i < n → p i ≡ true) → all p n ≡ true
unfolding all
all_make p zero h = refl
all_make p (suc n) h = both_true (all p n) (p n) (all_make p n (λ i l. h i (omega arith))) (h n (omega arith))

-- it is not past the last number
pub first_within : (p : ℕ → Bool) (i n : ℕ) → first_passing p i n ≤ i + n
unfolding first_passing
first_within p i zero = omega arith
first_within p i (suc n) = go (p i) (first_within p (suc i) n)
  where
    go : (b : Bool) → first_passing p (suc i) n ≤ suc i + n → pick b i (first_passing p (suc i) n) ≤ i + suc n
    go true k = omega arith
    go false k = omega arith
