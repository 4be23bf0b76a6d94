-- Laws of `total` and `period_of`, for any lengths of the periods. What `period_of` finds is the one period in which the day lies: a
-- day's number in its period, with the total of the periods before, is the number that was asked for.
use mathlib.Core.Path.{◌≡◌, refl, ap, sym, ◌∙◌}
use mathlib.Core.Bool.{Bool, true, false}
use Prim.Native.Nat.{ℕ, zero, suc, ◌+◌, ◌-◌, ◌*◌, ◌≤◌, ◌<◌}
use native.Mathlib.Nat.{add-zero, zero-add, add-suc, suc-add, mul-suc, add-sub_of_le}
use native.Mathlib.Omega.{arith}
use lib.Dec.{ltb}
use borrow.Author.Tests.{ltb-true, ltb-false}
use Rattle.calendar.specs.Calendar.{total, period_of, Period}

module _ (f : ℕ → ℕ) where
  pub total_zero : total f 0 ≡ 0
  unfolding total
  total_zero = refl

  pub total_suc : (n : ℕ) → total f (suc n) ≡ total f n + f n
  unfolding total
  total_suc n = refl

  pub total_le : (b : ℕ) → ((k : ℕ) → f k ≤ b) → (n : ℕ) → total f n ≤ b * n
  unfolding total
  total_le b h zero = omega arith
  total_le b h (suc n) = omega (arith, h n, total_le b h n, mul-suc b n)

  pub total_ge : ((k : ℕ) → 1 ≤ f k) → (n : ℕ) → n ≤ total f n
  unfolding total
  total_ge h zero = omega arith
  total_ge h (suc n) = omega (arith, h n, total_ge h n)

  -- the first m periods and then n more
  pub total_adds : (m n : ℕ) → total f (m + n) ≡ total f m + total (λ (k : ℕ). f (m + k)) n
  unfolding total
  total_adds m zero = ap (total f) (add-zero m) ∙ sym (add-zero (total f m))
  total_adds m (suc n) = rw (add-suc m n) (omega (arith, total_adds m n))

  pub total_grows : (m n : ℕ) → m ≤ n → total f m ≤ total f n
  total_grows m n h =
      let e : total f (m + (n - m)) ≡ total f n = ap (total f) (add-sub_of_le h) in
      omega (arith, total_adds m (n - m))

  -- a day of one period is numbered below every later period
  pub stretch_below : (i j n : ℕ) → i < j → n < f i → total f i + n < total f j
  stretch_below i j n h hn = omega (arith, total_suc i, total_grows (suc i) j h)

  pub below : (i j n : ℕ) → total f i + n < total f j → i < j
  below i j n h = go (ltb i j) refl
    where
      go : (b : Bool) → ltb i j ≡ b → i < j
      go true e = ltb-true i j e
      go false e = absurd (bad (total_grows j i (ltb-false i j e)))
        where
          bad : total f j ≤ total f i → ⊥
          bad g = omega arith

  -- what `period_of` finds: the day is within the period, and it is the same day
  pub record Found (i n : ℕ) (p : Period) : Type 0 where
    pub within : p.left < f p.number
    pub same : total f p.number + p.left ≡ total f i + n

  pub found : (fuel i n : ℕ) → total f i + n < total f (i + fuel) → Found i n (period_of f fuel i n)
  unfolding period_of
  found zero i n h = absurd (bad (rw (add-zero i) at h))
    where
      bad : total f i + n < total f i → ⊥
      bad g = omega arith
  found (suc fuel) i n h = go (ltb n (f i)) refl (found fuel (suc i) (n - f i))
    where
      go : (b : Bool) → ltb n (f i) ≡ b
          → (total f (suc i) + (n - f i) < total f (suc i + fuel) → Found (suc i) (n - f i) (period_of f fuel (suc i) (n - f i)))
          → Found i n (period_of f (suc fuel) i n)
      go true e r = rw (e, period_of) (record { within = omega (arith, ltb-true n (f i) e); same = refl })
      go false e r =
          let le : f i ≤ n = ltb-false n (f i) e in
          let ts : total f (suc i) ≡ total f i + f i = total_suc i in
          let g : total f i + n < total f (suc i + fuel) = rw (suc-add i fuel, ← add-suc i fuel) h in
          let q : Found (suc i) (n - f i) (period_of f fuel (suc i) (n - f i)) = r (omega arith) in
          rw (e, period_of) (record { within = q.within; same = q.same ∙ omega arith })

  -- a day lies in one period only
  pub one_period : (i j n m : ℕ) → n < f i → m < f j → total f i + n ≡ total f j + m → i ≡ j
  one_period i j n m hn hm e = go (ltb i j) (ltb j i) refl refl
    where
      later : (i j n m : ℕ) → i < j → n < f i → total f i + n ≡ total f j + m → ⊥
      later i j n m h hn e = omega (arith, stretch_below i j n h hn)

      go : (a b : Bool) → ltb i j ≡ a → ltb j i ≡ b → i ≡ j
      go true b ea eb = absurd (later i j n m (ltb-true i j ea) hn e)
      go false true ea eb = absurd (later j i m n (ltb-true j i eb) hm (sym e))
      go false false ea eb = omega (arith, ltb-false i j ea, ltb-false j i eb)

  -- `period_of`, from the first period on
  pub found_first : (fuel n : ℕ) → n < total f fuel → Found 0 n (period_of f fuel 0 n)
  found_first fuel n h = found fuel 0 n (rw zero-add (omega (arith, total_zero)))

  -- what `period_of` finds from the first period on is the one period with the number
  pub placed : (fuel n j l : ℕ) → n < total f fuel → l < f j → total f j + l ≡ n
      → period_of f fuel 0 n ≡ record { number = j; left = l }
  placed fuel n j l h hl e =
      let z : total f 0 ≡ 0 = total_zero in
      let q : Found 0 n (period_of f fuel 0 n) = found_first fuel n h in
      let r : (period_of f fuel 0 n).number ≡ j = one_period (period_of f fuel 0 n).number j (period_of f fuel 0 n).left l q.within hl (omega (arith, q.same)) in
      let t : total f (period_of f fuel 0 n).number ≡ total f j = ap (total f) r in
      let s : (period_of f fuel 0 n).left ≡ l = omega (arith, q.same) in
      λ i. record { number = r i; left = s i }
